use Rattle.std.proofs.Common.{arith}
use Rattle.frame_flow.proofs.OrderLemmas.{order-from-next}
use Rattle.frame_flow.proofs.copies.are_in_order.Goals as goal

pub returns : goal.returns
returns c e = order-from-next c.args.copies.now (λ k d l. c.loop-i.invariant k d (omega (arith, l)))
