use Rattle.std.proofs.Common.{◌≡◌, ◌+◌, ◌++◌, drop}
use Rattle.node_core.specs.Holding.{states_in}
use Rattle.world_core.specs.{nodes_from}
use Rattle.world_core.proofs.start.nodes_of_entries.Given as goal

-- the nodes so far and those of the entries that are left are all
abbrev pub invariant-loop-i : goal.invariant-loop-i
invariant-loop-i l = states_in l.nodes.items ++ nodes_from l.scenario (l.i + 1) (drop l.i l.entries) ≡ nodes_from l.scenario 1 l.entries
