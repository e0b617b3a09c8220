use Rattle.std.proofs.Common.{◌≡◌, ◌++◌, map}
use Rattle.std.specs.List.{range_with_len}
use Rattle.scenario_frames.specs.{copy_of}
use Rattle.scenario_frames.proofs.frames.add_copies.Given as goal

abbrev pub invariant-loop-index : goal.invariant-loop-index
invariant-loop-index l =
    l.frames.items ≡ l.initial.frames.items ++ map (copy_of l.entry l.way l.first) (range_with_len 0 l.index)
