use Rattle.std.proofs.Common.{◌≡◌, ◌++◌}
use Rattle.std.specs.List.{flat_map, range_with_len}
use Rattle.scenario_generator.specs.{stream_events}
use Rattle.scenario_generator.proofs.events.push_streams.Given as goal

abbrev pub invariant-loop-i : goal.invariant-loop-i
invariant-loop-i l = l.events.items ≡ l.initial.events.items ++ flat_map (stream_events l.fn.draws) (range_with_len 1 l.i)
