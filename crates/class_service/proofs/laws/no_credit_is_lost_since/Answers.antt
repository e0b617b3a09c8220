use Rattle.class_service.proofs.CreditLemmas.{fresh_first, some_since, lost_on}
use Rattle.class_service.proofs.laws.no_credit_is_lost_since.Goals as goal

pub returns-clause-first : goal.returns-clause-first
returns-clause-first c = fresh_first c.credit_laws.ensures

pub returns-clause-some : goal.returns-clause-some
returns-clause-some c = some_since c.credit_laws.ensures

pub returns-clause-busy : goal.returns-clause-busy
returns-clause-busy c = lost_on c.credit_laws.ensures
