use Rattle.class_service.proofs.CreditLemmas.{takes_no_more}
use Rattle.class_service.proofs.laws.a_class_takes_no_more_in_a_window.Goals as goal

pub returns : goal.returns
returns c = takes_no_more c.credit_laws.ensures
