use Rattle.std.proofs.Common.{ℕ, ◌<◌, length, get_or}
use Rattle.tree_topology.specs.{Link, IsNode}
use Rattle.tree_topology.proofs.checks.check_ends.Given as goal

abbrev pub invariant-loop-i : goal.invariant-loop-i
invariant-loop-i l =
    (j : ℕ) (d : Link) → j < l.i → IsNode (length l.nodes) (get_or l.links j d).a.0 × IsNode (length l.nodes) (get_or l.links j d).b.0
