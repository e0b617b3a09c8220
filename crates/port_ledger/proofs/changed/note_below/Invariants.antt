use Rattle.std.proofs.Common.{◌≡◌, ◌++◌, drop}
use Rattle.port_ledger.specs.{booked_streams_below}
use Rattle.port_ledger.proofs.changed.note_below.Given as goal

abbrev pub invariant-loop-x : goal.invariant-loop-x
invariant-loop-x l =
    l.fn.streams.items ++ booked_streams_below l.entries l.stream ≡ l.streams.items ++ booked_streams_below (drop l.x-index l.entries) l.stream
