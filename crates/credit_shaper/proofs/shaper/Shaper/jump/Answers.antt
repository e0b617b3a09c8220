-- Each credit goes on by itself.
use Rattle.std.proofs.Common.{rules}
use Rattle.std.specs.Prelude.{FitsSigned}
use Rattle.std.specs.Int.{w128}
use Rattle.std.proofs.lemmas.Int.{to_z-of_z}
use Rattle.credit_shaper.proofs.CreditLemmas.{after_bits_is}
use Rattle.credit_shaper.proofs.shaper.Shaper.jump.Goals as goal

pub returns : goal.returns
returns c =
    let a : FitsSigned w128 c.credit_after_bits.result = search rules in
    let b : FitsSigned w128 c.credit_after_bits-2.result = search rules in
    rw (to_z-of_z w128 c.credit_after_bits.result a, to_z-of_z w128 c.credit_after_bits-2.result b, after_bits_is) (search rules)
