use Rattle.std.proofs.Common.{◌≡◌, map}
use Rattle.std.specs.List.{range_with_len}
use Rattle.scenario_generator.specs.{stream_entry}
use Rattle.scenario_generator.proofs.streams.make_streams.Given as goal

abbrev pub invariant-loop-i : goal.invariant-loop-i
invariant-loop-i l = l.streams.items ≡ map (stream_entry l.fn.draws) (range_with_len 1 l.i)
