use Rattle.std.proofs.Common.{◌≡◌, map, take}
use Rattle.class_delays.specs.{ranked_place}
use Rattle.class_delays.proofs.places.levels_of.Given as goal

abbrev pub invariant-loop-place : goal.invariant-loop-place
invariant-loop-place l = l.ranked.items ≡ map (ranked_place l.tree) (take l.place-index l.places)
