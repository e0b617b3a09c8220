use Rattle.std.proofs.Common.{arith}
use Rattle.std.proofs.lemmas.Option.{gets}
use Rattle.port_ledger.proofs.ledger.Ledger.entry_at.Goals as goal

pub returns : goal.returns
returns c = grind (arith, gets)
