-- What stands at a key, in words.
use Rattle.std.specs.Prelude.{ℕ, ◌+◌, ◌/◌, ◌%◌, ◌==◌, nat_le, nat_lt, Bool, true, false, not, ◌&&◌, ◌||◌, if◌then◌else◌, List, [], ◌∷◌, length, codes, flat_map}
use Rattle.std.specs.Fmt.{decimal, signed_decimal}
use Rattle.srp_base.specs.Text.{whole_of}
use Rattle.toml.specs.Data.{Data, string, integer, float, boolean, datetime, array, table, Items, no_items, item}

-- a character that stands for itself between quotes: from the blank on, without the quote, the
-- backslash and DEL
abbrev pub is_plain : ℕ → Bool
is_plain c = nat_le 32 c && not (c == 34) && not (c == 92) && not (c == 127)

-- a hexadecimal digit
abbrev pub hex_digit : ℕ → ℕ
hex_digit n = if nat_lt n 10 then 48 + n else 87 + n

-- `\x0a`: another character, as its number
abbrev pub escape : ℕ → List ℕ
escape c = 92 ∷ 120 ∷ hex_digit (c / 16) ∷ hex_digit (c % 16) ∷ []

-- a character between quotes
abbrev pub shown_char : ℕ → List ℕ
shown_char c = if is_plain c then c ∷ [] else escape c

-- a text between quotes, in one line whatever its characters
abbrev pub quoted : List ℕ → List ℕ
quoted text = whole_of (codes "\"" ∷ flat_map shown_char text ∷ codes "\"" ∷ [])

-- how long a text is
abbrev pub length_words : ℕ → List ℕ
length_words n = whole_of (codes "a text of " ∷ decimal n ∷ codes " octets" ∷ [])

-- a text of at most 80 octets, or how long it is
abbrev pub text_words : List ℕ → List ℕ
text_words text = if nat_le (length text) 80 then quoted text else length_words (length text)

-- a truth value
abbrev pub truth_word : Bool → List ℕ
truth_word true = codes "true"
truth_word false = codes "false"

-- how many values an array has
abbrev pub items_count : Items → ℕ
items_count no_items = 0
items_count (item d ds) = items_count ds + 1

-- an array of so many values
abbrev pub array_words : ℕ → List ℕ
array_words n = whole_of (codes "an array of " ∷ decimal n ∷ codes " values" ∷ [])

-- a value
abbrev pub value_words : Data → List ℕ
value_words (string text) = text_words text
value_words (integer z) = signed_decimal z
value_words (boolean b) = truth_word b
value_words (float x) = codes "a number with a fraction"
value_words (datetime d) = codes "a date or a time"
value_words (array ds) = array_words (items_count ds)
value_words (table ms) = codes "a table"
