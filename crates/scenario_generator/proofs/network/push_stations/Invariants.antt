use Rattle.std.proofs.Common.{◌≡◌, ◌++◌, map}
use Rattle.std.specs.List.{range_with_len}
use Rattle.scenario_generator.specs.{station_entry}
use Rattle.scenario_generator.proofs.network.push_stations.Given as goal

abbrev pub invariant-loop-i : goal.invariant-loop-i
invariant-loop-i l = l.nodes.items ≡ l.initial.nodes.items ++ map (station_entry l.fn.bridges) (range_with_len 1 l.i)
