use Rattle.std.proofs.Common.{◌≡◌, take}
use Rattle.std.specs.List.{flat_map}
use Rattle.mvrp_codec.specs.{events_in_place}
use Rattle.mvrp_codec.proofs.reading.events_of.Given as goal

abbrev pub invariant-loop-message : goal.invariant-loop-message
invariant-loop-message l = l.out.items ≡ flat_map (λ m. flat_map events_in_place m.vectors.items) (take l.message-index l.messages)
