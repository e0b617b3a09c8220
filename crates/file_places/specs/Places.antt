-- Where a file isn't TOML, by line and column.
use Rattle.std.specs.Prelude.{◌≡◌, ℕ, ◌+◌, ◌-◌, ◌/◌, ◌%◌, ◌==◌, Bool, true, false, not, ◌&&◌, nat_eq, nat_le, nat_lt, if◌then◌else◌, List, [], ◌∷◌, ◌++◌, reverse, take, drop, slice_index, codes, count_by, All, None}
use Rattle.std.specs.List.{starts_with, take_while}
use Rattle.std.specs.Str.{is_utf8, IsValidUpTo}
use Rattle.std.specs.Fmt.{decimal}
use Rattle.srp_base.specs.Text.{whole_of}
use Rattle.toml.specs.Errors.{IsWithin, span_start}
use Rattle.toml.specs.declared.de.error.Error.{Error}
use Rattle.file_places.specs.declared.place.{Place.Place, Spot.Spot}
use Rattle.file_places.specs.Document.{document}

-- a line feed
abbrev pub is_feed : ℕ → Bool
is_feed c = c == 10

-- an octet with which a character of UTF-8 begins: all but those that go on with one
abbrev pub starts_character : ℕ → Bool
starts_character c = not (nat_le 128 c && nat_lt c 192)

-- what stands behind the last line feed
abbrev pub last_line : List ℕ → List ℕ
last_line octets = reverse (take_while (λ c. not (is_feed c)) (reverse octets))

-- the place behind some octets: its line is one more than there are line feeds, and its column one
-- more than there are characters since the last of them
abbrev pub spot_of : List ℕ → Spot
spot_of octets = record {
  line = 1 + count_by is_feed octets;
  column = 1 + count_by starts_character (last_line octets);
}

-- the place with one octet more
abbrev pub spot_behind : Spot → ℕ → Spot
spot_behind spot c =
    if is_feed c then record { line = spot.line + 1; column = 1 }
    else if starts_character c then record { line = spot.line; column = spot.column + 1 }
    else spot

-- how many octets the byte order mark has, which an editor doesn't show, where there is one
abbrev pub mark_length : List ℕ → ℕ
mark_length octets = if starts_with nat_eq octets (239 ∷ 187 ∷ 191 ∷ []) then 3 else 0

-- the place behind the first octets of a text, so many, without the mark
abbrev pub spot_at : List ℕ → ℕ → Spot
spot_at octets n = spot_of (take (n - mark_length octets) (drop (mark_length octets) octets))

-- ---- octets that are UTF-8

-- an octet that a line of a report may have
abbrev pub is_printed : ℕ → Bool
is_printed c = nat_le 32 c

-- a place is the start of what a reader's error spans, and its words fit on a line
pub record IsPlaceOf (octets : List ℕ) (e : Error) (place : Place) : Type 0 where
  pub spot : place.spot ≡ spot_at octets (span_start e)
  pub message : All (λ c. is_printed c ≡ true) place.message

-- a place is that of the error that the reader gives, which spans a part of the octets
pub record IsReadPlace (octets : List ℕ) (place : Place) : Type 0 where
  pub error : Error
  pub within : IsWithin octets error
  pub place_is : IsPlaceOf octets error place

-- ---- octets that aren't

-- a hexadecimal digit
abbrev pub hex_digit : ℕ → ℕ
hex_digit n = if nat_lt n 10 then 48 + n else 87 + n

-- what is said of the first octet that isn't UTF-8
abbrev pub utf8_words : ℕ → List ℕ
utf8_words octet = whole_of (codes "the octet 0x" ∷ (hex_digit (octet / 16) ∷ hex_digit (octet % 16) ∷ []) ∷ codes " isn't UTF-8" ∷ [])

-- a place is that of the octet behind the longest front that is UTF-8
pub record IsUtf8Place (octets : List ℕ) (place : Place) : Type 0 where
  pub valid : ℕ
  pub front : IsValidUpTo octets valid
  pub spot : place.spot ≡ spot_at octets valid
  pub message : place.message ≡ utf8_words (slice_index octets valid)

-- ---- where

-- a place of octets that are UTF-8, or of others
abbrev pub IsPlaceIn : Bool → List ℕ → Place → Type 0
IsPlaceIn true = IsReadPlace
IsPlaceIn false = IsUtf8Place

-- octets are no TOML document, and a place is where they stop being one
pub record IsFaultPlace (octets : List ℕ) (place : Place) : Type 0 where
  pub refused : document octets ≡ None
  pub place_is : IsPlaceIn (is_utf8 octets) octets place

-- `there: line L column C: `
abbrev pub spot_words : Spot → List ℕ
spot_words spot = whole_of (
    codes "there: line " ∷ decimal spot.line ∷ codes " column " ∷ decimal spot.column ∷ codes ": " ∷ [])

-- `there: line L column C: MESSAGE`
abbrev pub place_line : Place → List ℕ
place_line place = spot_words place.spot ++ (place.message ++ codes "\n")
