use Rattle.class_service.proofs.PortLemmas.{carried}
use Rattle.class_service.proofs.laws.what_arrives_is_carried_or_to_send.Goals as goal

pub returns : goal.returns
returns c = carried c.line_laws.ensures
