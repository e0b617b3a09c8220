use Rattle.std.proofs.Common.{◌<◌, ◌+◌, ℕ}
use Rattle.tree_topology.specs.{IsStationWithLinks}
use Rattle.tree_topology.proofs.adjacency.Graph.check_stations.Given as goal

abbrev pub invariant-loop-i : goal.invariant-loop-i
invariant-loop-i l = (k : ℕ) → k < l.i → ¬ IsStationWithLinks l.self.kinds.items l.self.links.items (k + 1)
