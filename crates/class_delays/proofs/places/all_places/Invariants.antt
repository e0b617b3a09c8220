use Rattle.std.proofs.Common.{◌≡◌}
use Rattle.std.specs.Prelude.{flat_map}
use Rattle.std.specs.List.{range_with_len}
use Rattle.frame_flow.specs.Copies.{places_of_link}
use Rattle.class_delays.proofs.places.all_places.Given as goal

abbrev pub invariant-loop-n : goal.invariant-loop-n
invariant-loop-n l = l.places.items ≡ flat_map (places_of_link l.tree.links l.rates) (range_with_len 1 l.n)
