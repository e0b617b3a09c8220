-- The number that a word writes.
use Rattle.std.specs.Prelude.{ℕ, ◌^◌, nat_eq, nat_lt, ◌&&◌, List, if◌then◌else◌, Option, Some, None}
use Rattle.std.specs.{Cmp.Lexicographic.pointwise, Fmt.decimal, Str.Parse.digits_value}

-- the number below 2 ^ 32 that a word writes: it is what is written of the number in decimal, so
-- that it has no sign and no leading zero
abbrev pub number_of_word : List ℕ → Option ℕ
number_of_word word =
    if nat_lt (digits_value 10 word) (2 ^ 32) && pointwise nat_eq word (decimal (digits_value 10 word))
    then Some (digits_value 10 word)
    else None
