use Rattle.frame_flow.specs.{arriving, coming}
use Rattle.frame_flow.proofs.OrderLemmas.{order-in_order, same-in_order}
use Rattle.frame_flow.proofs.laws.copies_arrive_in_order.Goals as goal

pub returns-clause-order : goal.returns-clause-order
unfolding arriving
returns-clause-order c s flows place = order-in_order (coming s flows place)

pub returns-clause-same : goal.returns-clause-same
unfolding arriving
returns-clause-same c s flows place = same-in_order (coming s flows place)
