-- When a station of a network may be asked for something.
use Rattle.std.proofs.Common.{◌≡◌, ◌-◌, Some, subst}
use Rattle.srp_base.specs.declared.numbers.NodeNo.{NodeNo}
use Rattle.tree_topology.specs.declared.{graph.NodeKind.NodeKind, graph.NodeKind.TheVariants.Station}
use Rattle.node_core.specs.State.{NodeState}
use Rattle.world_core.specs.{World.WorldState, World.node_at, Kept.IsKeptWorld}
use Rattle.std.specs.Prelude.{slice_get}

-- a node that is a station is one by the tree
pub may_be_asked : (w : WorldState) (n : NodeNo) (s : NodeState) → IsKeptWorld w → node_at n w ≡ Some s → s.kind ≡ Station
    → slice_get w.tree.kinds (n.0 - 1) ≡ Some Station
may_be_asked w n s kept there is = subst (λ (k : NodeKind). slice_get w.tree.kinds (n.0 - 1) ≡ Some k) is (kept.nodes (n.0 - 1) s there).kind
