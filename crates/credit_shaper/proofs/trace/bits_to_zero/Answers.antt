-- Rounded up, so that one bit time less isn't enough.
use Rattle.std.proofs.Common.{◌≡◌, ◌+◌, ◌*◌, ◌<◌, ◌∙◌, ap, arith}
use Rattle.std.specs.Prelude.{unsigned_abs, pos, ◌<ℤ◌}
use Rattle.std.specs.Int.{div_ceil, w128}
use Rattle.std.proofs.lemmas.{Int.to_z-of_z, Grind.div_ceil_times}
use Rattle.credit_shaper.proofs.CreditLemmas.{short_before}
use Rattle.credit_shaper.proofs.trace.bits_to_zero.Goals as goal

pub returns-clause-before : goal.returns-clause-before
returns-clause-before c n l =
    let size : c.unsigned_abs.result ≡ unsigned_abs c.args.credit =
    c.unsigned_abs.ensures.value ∙ ap unsigned_abs (to_z-of_z w128 c.args.credit c.ranges.credit) in
    let most : c.div_ceil-bits.result ≡ div_ceil (unsigned_abs c.args.credit) c.args.slope =
    c.div_ceil-bits.ensures ∙ (ap (λ k. div_ceil k c.from.result) size ∙ ap (λ k. div_ceil (unsigned_abs c.args.credit) k) c.from.ensures) in
    let tight : div_ceil (unsigned_abs c.args.credit) c.args.slope * c.args.slope < unsigned_abs c.args.credit + c.args.slope =
    (div_ceil_times (unsigned_abs c.args.credit) c.args.slope (omega arith)).1 in
    let below : c.args.credit <ℤ pos 0 = c.requires.credit in
    short_before c.args.credit c.args.slope (div_ceil (unsigned_abs c.args.credit) c.args.slope) n below tight (omega (arith, most, l))
