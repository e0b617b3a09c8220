use Rattle.std.proofs.Common.{◌≡◌, ◌++◌, map}
use Rattle.std.specs.List.{range_with_len}
use Rattle.scenario_generator.specs.{bridge_link}
use Rattle.scenario_generator.proofs.network.push_bridge_links.Given as goal

abbrev pub invariant-loop-i : goal.invariant-loop-i
invariant-loop-i l = l.links.items ≡ l.initial.links.items ++ map (bridge_link l.fn.draws) (range_with_len 2 l.i)
