use Rattle.msrp_listener.proofs.MergingLemmas.{order_free}
use Rattle.msrp_listener.proofs.laws.ports_have_no_order.Goals as goal

pub returns : goal.returns
returns c = order_free
