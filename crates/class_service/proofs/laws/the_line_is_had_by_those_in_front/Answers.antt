use Rattle.class_service.proofs.QueueLemmas.{waits_until, bits_in_front}
use Rattle.class_service.proofs.laws.the_line_is_had_by_those_in_front.Goals as goal

pub returns-clause-waits : goal.returns-clause-waits
returns-clause-waits c = waits_until c.order_laws.ensures

pub returns-clause-bits : goal.returns-clause-bits
returns-clause-bits c = bits_in_front c.line_laws.ensures c.order_laws.ensures
