use Rattle.class_service.proofs.HeightLemmas.{rises_no_higher}
use Rattle.class_service.proofs.laws.credit_rises_no_higher.Goals as goal

pub returns : goal.returns
returns c = rises_no_higher c.credit_laws.ensures c.line_laws.ensures c.class_a_credit_stays_within.ensures
