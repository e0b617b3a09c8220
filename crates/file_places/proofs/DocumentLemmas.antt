-- What toml's reader says of octets, as the document of those octets.
use Rattle.std.proofs.Common.{◌≡◌, ℕ, Bool, false, List, Some, None, refl, sym, ◌∙◌, inl, inr}
use Rattle.std.specs.Prelude.{◌↔◌, IsTrue, IsUtf8}
use Rattle.std.proofs.lemmas.{Bool.cases_Bool, Bool.false≢true, Str.IsUtf8-from_is_utf8, Str.is_utf8-from_IsUtf8}
use Rattle.std.specs.Str.{is_utf8}
use Rattle.toml.specs.Data.{Members}
use Rattle.toml.specs.Parse.{parse_document}
use Rattle.toml.specs.Errors.{IsWithin}
use Rattle.toml.specs.declared.de.error.Error.{Error}
use Rattle.file_places.specs.declared.place.Place.{Place}
use Rattle.file_places.specs.{document, IsFaultPlace, IsPlaceOf, IsUtf8Place}

pub document_found : (octets : List ℕ) (ms : Members) → IsUtf8 octets → parse_document octets ≡ Some ms → document octets ≡ Some ms
document_found octets ms utf8 parsed = rw (is_utf8-from_IsUtf8 octets utf8) parsed

pub document_refused : (octets : List ℕ) → (IsUtf8 octets → parse_document octets ≡ None) → document octets ≡ None
document_refused octets refused =
    elim (cases_Bool (is_utf8 octets)) [
      | inl is ↦ rw is (refused (IsUtf8-from_is_utf8 octets is))
      | inr not_utf8 ↦ rw not_utf8 refl
    ]

-- a test that failed rules out its fact
pub ruled_out : (b : Bool) (P : Type 0) → b ≡ false → IsTrue b ↔ P → P → ⊥
ruled_out b P failed tells p = false≢true (sym failed ∙ tells.1 p)

-- the place of a reader's error of octets that are UTF-8
pub text_fault : (octets : List ℕ) (e : Error) (place : Place) → IsUtf8 octets → IsWithin octets e → document octets ≡ None
    → IsPlaceOf octets e place → IsFaultPlace octets place
text_fault octets e place utf8 within refused is = record {
  refused = refused;
  place_is = rw (is_utf8-from_IsUtf8 octets utf8) (record { error = e; within = within; place_is = is });
}

-- that of octets that aren't
pub utf8_fault : (octets : List ℕ) (place : Place) → ¬ (IsUtf8 octets) → IsUtf8Place octets place → IsFaultPlace octets place
utf8_fault octets place not_utf8 is =
    elim (cases_Bool (is_utf8 octets)) [
      | inl utf8 ↦ absurd (not_utf8 (IsUtf8-from_is_utf8 octets utf8))
      | inr off ↦ record { refused = rw off refl; place_is = rw off is }
    ]
