-- In order with the next is in order with each later one.
use Rattle.std.proofs.Common.{refl, arith}
use Rattle.credit_shaper.proofs.MomentLemmas.{changes_ascend}
use Rattle.credit_shaper.proofs.port.do_changes_ascend.Goals as goal

pub returns : goal.returns
returns c = ((λ _. changes_ascend c.args.slopes.now (λ k d l. c.loop-i.invariant k d (omega (arith, l)))), (λ _. refl))
