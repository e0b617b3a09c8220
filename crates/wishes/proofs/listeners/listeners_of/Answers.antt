use Rattle.std.proofs.Common.{List, sym, subst}
use Rattle.std.specs.List.{AllByRecursion}
use Rattle.srp_base.specs.declared.numbers.NodeNo.{NodeNo}
use Rattle.tree_topology.specs.Topology.{HasNode}
use Rattle.wishes.proofs.ListLemmas.{listeners_are_nodes}
use Rattle.wishes.proofs.listeners.listeners_of.Goals as goal

pub returns-clause-nodes : goal.returns-clause-nodes
returns-clause-nodes c =
    subst (λ (ns : List NodeNo). AllByRecursion (λ n. HasNode c.args.world.now.tree n.0) ns) (sym c.in_ok-stations.ensures)
    (listeners_are_nodes c.args.world.now c.args.stream)
