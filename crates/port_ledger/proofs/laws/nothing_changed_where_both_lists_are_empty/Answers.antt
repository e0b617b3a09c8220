use Rattle.port_ledger.proofs.Comparing.{booked_only_in-booked, nothing_changed}
use Rattle.port_ledger.proofs.laws.nothing_changed_where_both_lists_are_empty.Goals as goal

pub returns-clause-empty : goal.returns-clause-empty
returns-clause-empty c = nothing_changed

pub returns-clause-bookings : goal.returns-clause-bookings
returns-clause-bookings c = booked_only_in-booked
