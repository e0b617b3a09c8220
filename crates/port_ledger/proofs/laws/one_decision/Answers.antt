use Rattle.port_ledger.proofs.Marking.{decision_exists, decision_unique}
use Rattle.port_ledger.proofs.laws.one_decision.Goals as goal

pub returns-clause-exists : goal.returns-clause-exists
returns-clause-exists c = λ now. decision_exists now (c.importance_is_an_order.ensures now)

pub returns-clause-unique : goal.returns-clause-unique
returns-clause-unique c = λ now caps entries marks others different. decision_unique now (c.importance_is_an_order.ensures now) caps entries different marks others
