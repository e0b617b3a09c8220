-- In order with the next is in order with each later one.
use Rattle.std.proofs.Common.{refl, arith}
use Rattle.frame_flow.proofs.SlopeLemmas.{changes-earlier}
use Rattle.frame_flow.proofs.valid.do_changes_ascend.Goals as goal

pub returns : goal.returns
returns c = ((λ _. changes-earlier c.args.changes.now (λ k d l. c.loop-i.invariant k d (omega (arith, l)))), (λ _. refl))
