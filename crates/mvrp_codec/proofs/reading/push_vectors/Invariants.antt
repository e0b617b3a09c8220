use Rattle.std.proofs.Common.{◌≡◌, ◌++◌, take}
use Rattle.std.specs.List.{flat_map}
use Rattle.mvrp_codec.specs.{events_in_place}
use Rattle.mvrp_codec.proofs.reading.push_vectors.Given as goal

abbrev pub invariant-loop-v : goal.invariant-loop-v
invariant-loop-v l = l.out.items ≡ l.initial.out.items ++ flat_map events_in_place (take l.v-index l.vectors)
