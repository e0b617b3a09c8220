use Rattle.std.proofs.Common.{◌≡◌, ◌++◌, map}
use Rattle.std.specs.List.{range_with_len}
use Rattle.scenario_generator.specs.{station_link}
use Rattle.scenario_generator.proofs.network.push_station_links.Given as goal

abbrev pub invariant-loop-i : goal.invariant-loop-i
invariant-loop-i l = l.links.items ≡ l.initial.links.items ++ map (station_link l.fn.draws l.fn.bridges) (range_with_len 1 l.i)
