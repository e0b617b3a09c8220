-- In order with the next is in order with each later one.
use Rattle.std.proofs.Common.{refl, arith}
use Rattle.credit_shaper.proofs.MomentLemmas.{arrivals_ascend}
use Rattle.credit_shaper.proofs.port.do_arrivals_ascend.Goals as goal

pub returns : goal.returns
returns c = ((λ _. arrivals_ascend c.args.arrivals.now (λ k d l. c.loop-i.invariant k d (omega (arith, l)))), (λ _. refl))
