-- In order with the next is in order with each later one.
use Rattle.std.proofs.Common.{refl, arith}
use Rattle.frame_flow.proofs.SlopeLemmas.{numbers-ascend}
use Rattle.frame_flow.proofs.valid.do_numbers_ascend.Goals as goal

pub returns : goal.returns
returns c = ((λ _. numbers-ascend c.args.frames.now (λ k d l. c.loop-i.invariant k d (omega (arith, l)))), (λ _. refl))
