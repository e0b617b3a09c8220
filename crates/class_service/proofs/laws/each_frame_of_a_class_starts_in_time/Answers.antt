use Rattle.class_service.proofs.WaitLemmas.{in_time}
use Rattle.class_service.proofs.laws.each_frame_of_a_class_starts_in_time.Goals as goal

pub returns : goal.returns
returns c = in_time c.credit_laws.ensures c.line_laws.ensures c.order_laws.ensures c.class_a_credit_stays_within.ensures
