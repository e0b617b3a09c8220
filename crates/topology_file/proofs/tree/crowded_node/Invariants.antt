use Rattle.std.proofs.Common.{◌≡◌, [], take, drop}
use Rattle.srp_base.specs.Firsts.{first_where}
use Rattle.topology_file.specs.{is_crowded}
use Rattle.topology_file.proofs.tree.crowded_node.Given as goal

abbrev pub invariant-loop-i : goal.invariant-loop-i
invariant-loop-i l =
    first_where (is_crowded l.tree.links) (take l.i l.nodes) (drop l.i l.nodes) ≡ first_where (is_crowded l.tree.links) [] l.nodes
