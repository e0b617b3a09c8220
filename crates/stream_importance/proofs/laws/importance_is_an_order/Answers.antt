use Rattle.stream_importance.proofs.OrderLaws.{importance_order}
use Rattle.stream_importance.proofs.laws.importance_is_an_order.Goals as goal

pub returns : goal.returns
returns c = importance_order
