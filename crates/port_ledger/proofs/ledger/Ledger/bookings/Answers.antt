use Rattle.port_ledger.proofs.Comparing.{bookings_ascend}
use Rattle.port_ledger.proofs.ledger.Ledger.bookings.Goals as goal

pub returns-clause-ascending : goal.returns-clause-ascending
returns-clause-ascending c = bookings_ascend _ _ (rw c.deref.ensures.value at c.bookings.ensures) c.self.invariant.0.ascending
