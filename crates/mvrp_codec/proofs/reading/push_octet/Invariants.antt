use Rattle.std.proofs.Common.{◌≡◌, ◌+◌, ◌++◌, drop}
use Rattle.mvrp_codec.specs.{events_from}
use Rattle.mvrp_codec.proofs.reading.push_octet.Given as goal

abbrev pub invariant-loop-event : goal.invariant-loop-event
invariant-loop-event l =
    (l.out.items ++ events_from l.number (drop l.event-index l.event-items) ≡ l.initial.out.items ++ events_from l.first l.event-items)
    × (l.number ≡ l.first + l.event-index)
