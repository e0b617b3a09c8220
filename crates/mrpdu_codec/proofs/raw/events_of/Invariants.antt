use Rattle.std.proofs.Common.{◌≡◌, ◌≤◌, length, take}
use Rattle.std.specs.List.{flat_map}
use Rattle.mrpdu_codec.specs.{three_events}
use Rattle.mrpdu_codec.proofs.raw.events_of.Given as goal

abbrev pub invariant-loop-octet : goal.invariant-loop-octet
invariant-loop-octet l = (l.events.items ≡ take l.n (flat_map three_events (take l.octet-index l.packed))) × (length l.events.items ≤ l.n)
