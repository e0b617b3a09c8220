use Rattle.class_service.proofs.RangeLemmas.{falls_no_lower}
use Rattle.class_service.proofs.laws.credit_falls_no_lower.Goals as goal

pub returns : goal.returns
returns c = falls_no_lower c.credit_laws.ensures c.line_laws.ensures
