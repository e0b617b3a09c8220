use Rattle.std.proofs.Common.{◌≡◌, map, take}
use Rattle.frame_flow.specs.{level_of}
use Rattle.frame_flow.proofs.levels.levels_of.Given as goal

abbrev pub invariant-loop-place : goal.invariant-loop-place
invariant-loop-place l = l.levels.items ≡ map (level_of l.tree) (take l.place-index l.places)
