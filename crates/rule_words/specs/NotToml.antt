-- What is said of octets that are no TOML document.
use Rattle.std.specs.Prelude.{◌≡◌, ℕ, List, ◌++◌, codes}
use Rattle.file_places.specs.declared.place.Place.{Place}
use Rattle.file_places.specs.Places.{place_line, IsFaultPlace}

-- that they are none
abbrev pub not_toml_words : List ℕ
not_toml_words = codes "not TOML\nasks: the octets are UTF-8 and a TOML document\n"

-- that, and a place at which they stop being one
abbrev pub not_toml_at : Place → List ℕ
not_toml_at place = not_toml_words ++ place_line place

-- a text says that of octets that are none, with the place at which they stop being one
pub record IsNotTomlText (octets : List ℕ) (text : List ℕ) : Type 0 where
  pub place : Place
  pub is_fault : IsFaultPlace octets place
  pub text_is : text ≡ not_toml_at place
