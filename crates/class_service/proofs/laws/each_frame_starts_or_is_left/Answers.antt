use Rattle.class_service.proofs.QueueLemmas.{starts_or_left}
use Rattle.class_service.proofs.laws.each_frame_starts_or_is_left.Goals as goal

pub returns : goal.returns
returns c = starts_or_left c.order_laws.ensures
