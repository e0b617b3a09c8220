-- What every network keeps.
use Rattle.std.specs.Prelude.{◌≡◌, ◌+◌, ℕ, length, slice_get, Some}
use Rattle.tree_topology.specs.{Topology.Topology, Topology.IsSound, Ports.neighbours}
use Rattle.node_core.specs.{State.NodeState, State.ports_of, Proper.IsProperNode}
use Rattle.world_core.specs.{Marks.IsOfTree, World.WorldState, Duty.AreVlanDutiesMet, Duty.AreStreamDutiesMet}

-- a node is that of its place in the tree: its kind, a port for each of its links, and what every
-- node keeps
pub record FitsTree (tree : Topology) (x : ℕ) (s : NodeState) : Type 0 where
  pub kind : slice_get tree.kinds x ≡ Some s.kind
  pub ports : ports_of s ≡ length (neighbours tree.links (x + 1))
  pub kept : IsProperNode s

-- What every network keeps: a sound tree, the nodes of the tree, one clock, the marks of the tree's
-- ports, and of each link, in MVRP and in MSRP, both duties and what its marks say.
pub record IsKeptWorld (w : WorldState) : Type 0 where
  pub tree : IsSound w.tree
  pub many : length w.nodes ≡ length w.tree.kinds
  pub nodes : (x : ℕ) (s : NodeState) → slice_get w.nodes x ≡ Some s → FitsTree w.tree x s
  pub clock : (x y : ℕ) (s t : NodeState) → slice_get w.nodes x ≡ Some s → slice_get w.nodes y ≡ Some t → s.clock ≡ t.clock
  pub marks_of : w.marks.tree ≡ w.tree
  pub marks : IsOfTree w.marks
  pub duties : AreVlanDutiesMet w
  pub streams : AreStreamDutiesMet w

-- a node stands at its place in the tree: its kind, and a port for each of its links
pub record StandsInTree (tree : Topology) (x : ℕ) (s : NodeState) : Type 0 where
  pub kind : slice_get tree.kinds x ≡ Some s.kind
  pub ports : ports_of s ≡ length (neighbours tree.links (x + 1))

-- What a network keeps beside what each of its nodes keeps by itself.
pub record IsWhole (w : WorldState) : Type 0 where
  pub tree : IsSound w.tree
  pub many : length w.nodes ≡ length w.tree.kinds
  pub nodes : (x : ℕ) (s : NodeState) → slice_get w.nodes x ≡ Some s → StandsInTree w.tree x s
  pub clock : (x y : ℕ) (s t : NodeState) → slice_get w.nodes x ≡ Some s → slice_get w.nodes y ≡ Some t → s.clock ≡ t.clock
  pub marks_of : w.marks.tree ≡ w.tree
  pub marks : IsOfTree w.marks
  pub duties : AreVlanDutiesMet w
  pub streams : AreStreamDutiesMet w
