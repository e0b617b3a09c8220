use Rattle.port_ledger.proofs.Unmoved.{unmoved}
use Rattle.port_ledger.proofs.laws.what_has_not_moved_is_booked_as_before.Goals as goal

pub returns : goal.returns
returns c = unmoved
