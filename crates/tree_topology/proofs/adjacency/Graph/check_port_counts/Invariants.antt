use Rattle.std.proofs.Common.{◌<◌, ◌≤◌, ◌+◌, ℕ, length}
use Rattle.tree_topology.specs.{neighbours}
use Rattle.tree_topology.proofs.adjacency.Graph.check_port_counts.Given as goal

abbrev pub invariant-loop-i : goal.invariant-loop-i
invariant-loop-i l = (k : ℕ) → k < l.i → length (neighbours l.self.links.items (k + 1)) ≤ 255
