use Rattle.std.proofs.Common.{◌≡◌, ◌++◌, [], drop}
use Rattle.port_ledger.specs.{booked_only_in}
use Rattle.port_ledger.proofs.changed.note_all.Given as goal

abbrev pub invariant-loop-x : goal.invariant-loop-x
invariant-loop-x l =
    l.fn.streams.items ++ booked_only_in l.entries [] ≡ l.streams.items ++ booked_only_in (drop l.x-index l.entries) []
