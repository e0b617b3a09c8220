use Rattle.std.proofs.Common.{◌≡◌, ◌++◌, drop}
use Rattle.port_ledger.specs.{booked_of}
use Rattle.port_ledger.proofs.entries.bookings.Given as goal

abbrev pub invariant-loop-x : goal.invariant-loop-x
invariant-loop-x l = booked_of l.entries ≡ l.booked.items ++ booked_of (drop l.x-index l.entries)
