use Rattle.std.proofs.Common.{◌≡◌, ◌++◌, take, drop}
use Rattle.std.specs.List.{flat_map}
use Rattle.mrpdu_codec.specs.Octets.{three_events}
use Rattle.mvrp_codec.specs.{events_from}
use Rattle.mvrp_codec.proofs.reading.push_events.Given as goal

abbrev pub invariant-loop-octet : goal.invariant-loop-octet
invariant-loop-octet l =
    l.out.items ++ events_from l.number (take l.left (flat_map three_events (drop l.octet-index l.packed)))
    ≡ l.initial.out.items ++ events_from l.first (take l.n (flat_map three_events l.packed))
