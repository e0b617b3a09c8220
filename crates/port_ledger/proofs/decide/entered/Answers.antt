use Rattle.port_ledger.proofs.Fronts.{behind_different}
use Rattle.port_ledger.proofs.decide.entered.Goals as goal

pub exchange-requires-clause-different : goal.exchange-requires-clause-different
exchange-requires-clause-different c = behind_different _ _ _ c.requires.behind
