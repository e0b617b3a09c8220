use Rattle.port_ledger.proofs.Merging.{WalksBoth}
use Rattle.port_ledger.proofs.changed.changes.Given as goal

abbrev pub invariant-loop-x : goal.invariant-loop-x
invariant-loop-x l = WalksBoth l.before l.after l.x-index l.booked.items l.dropped.items l.rest
