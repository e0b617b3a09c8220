use Rattle.std.proofs.Common.{◌≢◌, ℕ, ◌<◌, get_or}
use Rattle.tree_topology.specs.{Link}
use Rattle.tree_topology.proofs.checks.check_self_links.Given as goal

abbrev pub invariant-loop-i : goal.invariant-loop-i
invariant-loop-i l = (j : ℕ) (d : Link) → j < l.i → (get_or l.links j d).a.0 ≢ (get_or l.links j d).b.0
