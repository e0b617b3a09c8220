use Rattle.std.proofs.Common.{List, subst}
use Rattle.tree_topology.specs.{Link, HasNoLoop}
use Rattle.tree_topology.proofs.span.Span.of_tree.Goals as goal

pub check_tree-requires-clause-no_loop : goal.check_tree-requires-clause-no_loop
check_tree-requires-clause-no_loop c =
    let F : List Link → Type 0 = λ t. HasNoLoop t in
    subst F c.deref-2.ensures.value c.in_ok-check_loops.ensures.ok
