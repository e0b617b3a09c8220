-- What a hole padded to nine digits writes.
use Rattle.std.proofs.Common.{◌≡◌, ℕ, ◌-◌, ◌^◌, List, [], ◌++◌, length, false, append-nil}
use Rattle.std.proofs.Math.Nat.{sub-zero}
use Rattle.std.specs.Prelude.{replicate}
use Rattle.std.specs.Fmt.{decimal, styled_decimal, padded_integral, format_spec, char_count}
use Rattle.pdu_words.specs.{nine_digits}

padded_nine : (ds : List ℕ) → padded_integral (format_spec 32 0 4 9 (2 ^ 64 - 1)) false [] ds ≡ replicate (9 - length ds) 48 ++ ds
unfolding padded_integral char_count
padded_nine ds = simp (append-nil, sub-zero)

-- what `{:09}` writes of a number
pub styled_nine : (n : ℕ) → styled_decimal (format_spec 32 0 4 9 (2 ^ 64 - 1)) n ≡ nine_digits n
unfolding nine_digits
styled_nine n = padded_nine (decimal n)
