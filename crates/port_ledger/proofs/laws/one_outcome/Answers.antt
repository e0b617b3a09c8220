use Rattle.port_ledger.proofs.Rounds.{decided_decides, decided_only}
use Rattle.port_ledger.proofs.laws.one_outcome.Goals as goal

pub returns-clause-decides : goal.returns-clause-decides
returns-clause-decides c = λ now. decided_decides now (c.importance_is_an_order.ensures now)

pub returns-clause-only : goal.returns-clause-only
returns-clause-only c = λ now. decided_only now (c.importance_is_an_order.ensures now)
