-- Rounded up, so that one bit time less isn't enough.
use Rattle.std.proofs.Common.{◌≡◌, ◌∙◌, sym, ap, arith}
use Rattle.std.specs.Prelude.{unsigned_abs, min, nat_le}
use Rattle.std.specs.Int.{div_ceil, w128}
use Rattle.std.proofs.lemmas.{Int.ints, Int.to_z-of_z, Grind.div_ceil_times}
use Rattle.class_b_bound.proofs.PieceLemmas.{short_is}
use Rattle.class_b_bound.proofs.waits.bits_short.Goals as goal

pub returns-clause-short : goal.returns-clause-short
returns-clause-short c n l =
    let size : c.unsigned_abs.result ≡ unsigned_abs c.args.credit =
    c.unsigned_abs.ensures.value ∙ ap unsigned_abs (to_z-of_z w128 c.args.credit c.ranges.credit) in
    let needed : c.div_ceil-needed.result ≡ div_ceil (unsigned_abs c.args.credit) c.args.slope =
    c.div_ceil-needed.ensures ∙ (ap (λ k. div_ceil k c.from.result) size ∙ ap (λ k. div_ceil (unsigned_abs c.args.credit) k) c.from.ensures) in
    let least : c.min.result ≡ min (div_ceil (unsigned_abs c.args.credit) c.args.slope) c.args.bits =
    c.min.ensures ∙ (ap (λ k. min k c.from-2.result) needed ∙ ap (λ k. min (div_ceil (unsigned_abs c.args.credit) c.args.slope) k) c.from-2.ensures) in
    let times = div_ceil_times (unsigned_abs c.args.credit) c.args.slope (omega arith) in
    short_is c.args.credit c.args.slope c.args.bits (div_ceil (unsigned_abs c.args.credit) c.args.slope) n (omega (arith, ints)) times.0 times.1 l
    ∙ ap (λ k. nat_le k n) (sym least)
