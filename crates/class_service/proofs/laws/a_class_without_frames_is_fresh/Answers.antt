use Rattle.class_service.proofs.WaitLemmas.{fresh_without}
use Rattle.class_service.proofs.laws.a_class_without_frames_is_fresh.Goals as goal

pub returns : goal.returns
returns c = fresh_without c.credit_laws.ensures c.line_laws.ensures
