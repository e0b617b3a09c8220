use Rattle.std.proofs.Common.{List, sym, subst}
use Rattle.tree_topology.specs.Topology.{Topology}
use Rattle.world_core.specs.{EndMarks, IsOfTree, rows_from}
use Rattle.world_core.proofs.NewMarks.{new_of}
use Rattle.world_core.proofs.marks.Marks.of.Goals as goal

pub invariant_of-result : goal.invariant_of-result
invariant_of-result c =
    subst (λ (ends : List (List EndMarks)). IsOfTree (record { tree = c.in_ok-copy.copy; ends = ends })) (sym c.in_ok-ends.ensures)
    (subst (λ (t : Topology). IsOfTree (record { tree = t; ends = rows_from c.args.tree.now.links 1 c.args.tree.now.kinds })) (sym c.in_ok-copy.ensures)
    (new_of c.args.tree.now))
