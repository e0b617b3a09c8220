-- What a hole padded to two digits writes.
use Rattle.std.proofs.Common.{◌≡◌, ℕ, ◌-◌, ◌^◌, List, [], ◌++◌, length, false, append-nil}
use Rattle.std.proofs.Math.Nat.{sub-zero}
use Rattle.std.specs.Prelude.{replicate}
use Rattle.std.specs.Fmt.{decimal, styled_decimal, padded_integral, format_spec, char_count}
use Rattle.link_replay.specs.{two_digits}

padded_two : (ds : List ℕ) → padded_integral (format_spec 32 0 4 2 (2 ^ 64 - 1)) false [] ds ≡ replicate (2 - length ds) 48 ++ ds
unfolding padded_integral char_count
padded_two ds = simp (append-nil, sub-zero)

-- what `{:02}` writes of a number
pub styled_two : (n : ℕ) → styled_decimal (format_spec 32 0 4 2 (2 ^ 64 - 1)) n ≡ two_digits n
unfolding two_digits
styled_two n = padded_two (decimal n)
