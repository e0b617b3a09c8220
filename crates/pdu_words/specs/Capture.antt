-- What a capture gives: lines of hexadecimal digits, the octets of a PDU in a line.
use Rattle.std.specs.Prelude.{ℕ, ◌/◌, Bool, true, not, ◌==◌, ◌&&◌, ◌||◌, if◌then◌else◌, List, [], ◌∷◌, filter, length, slice_index, Option, None}
use Rattle.std.specs.Result.{result_ok}
use Rattle.hex.specs.Hex.{decode_sized}

-- a character in front of the first of some lines
abbrev pub onto : ℕ → List (List ℕ) → List (List ℕ)
onto c [] = (c ∷ []) ∷ []
onto c (line ∷ lines) = (c ∷ line) ∷ lines

-- the lines of a text: a line feed ends each, which the last may lack
abbrev pub lines_of : List ℕ → List (List ℕ)
lines_of [] = []
lines_of (c ∷ cs) = if c == 10 then [] ∷ lines_of cs else onto c (lines_of cs)

-- what may stand between octets: a blank, a tab, a colon, a hyphen, and a carriage return at the
-- end
abbrev pub is_between : ℕ → Bool
is_between c = c == 32 || c == 9 || c == 58 || c == 45 || c == 13

-- the line without it
abbrev pub digits_of : List ℕ → List ℕ
digits_of line = filter (λ c. not (is_between c)) line

-- whether the two digits of each octet stand side by side
abbrev pub is_paired : List ℕ → Bool
is_paired [] = true
is_paired (c ∷ []) = is_between c
is_paired (c ∷ d ∷ cs) = if is_between c then is_paired (d ∷ cs) else not (is_between d) && is_paired cs

-- the octets that hexadecimal digits of either case spell, two digits an octet
abbrev pub octets_of : List ℕ → Option (List ℕ)
octets_of digits = result_ok (decode_sized digits (length digits / 2))

-- the octets of a line, if it has nothing but octets
abbrev pub octets_in : List ℕ → Option (List ℕ)
octets_in line = if is_paired line then octets_of (digits_of line) else None

-- a line that begins with `#` is a remark
abbrev pub is_remark : List ℕ → Bool
is_remark line = slice_index line 0 == 35

-- a line that has no PDU: it is empty, or a remark
abbrev pub is_passed_over : List ℕ → Bool
is_passed_over line = is_remark line || length (digits_of line) == 0
