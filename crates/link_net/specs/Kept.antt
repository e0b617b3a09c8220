-- What every network keeps, whatever has happened in it.
use Rattle.std.specs.Prelude.{◌≡◌, ◌≤◌, ◌+◌, ◌^◌, ℕ, List, ◌++◌, length, slice_get, Some}
use Rattle.srp_base.specs.declared.{numbers.Cs.Cs, numbers.EgressPort.EgressPort}
use Rattle.tree_topology.specs.declared.graph.NodeKind.{NodeKind}
use Rattle.tree_topology.specs.{Topology.Topology, Topology.HasPort, Topology.IsSound, Ports.neighbours, Ports.peer_of}
use Rattle.link_net.specs.{Meaning.NodeMeaning, Net.NetState, Net.part_at, Net.inbox, Net.outbox}

module _ {Name Step Reply Request Pdu : Type 0} (node : NodeMeaning Name Step Reply Request Pdu) where
  -- the PDUs in flight from a port: those that came in at its peer, and then those that are to go
  -- out
  abbrev pub in_flight : EgressPort → NetState node.State → List Pdu
  in_flight p w = inbox node (peer_of w.tree.links p) w ++ outbox node p w

  -- on every link both ends meet their duty in an application
  abbrev pub AreDutiesMet : Name → NetState node.State → Type 0
  AreDutiesMet n w =
      (p : EgressPort) → HasPort w.tree p → (near far : node.Part n)
      → part_at node n p w ≡ Some near → part_at node n (peer_of w.tree.links p) w ≡ Some far
      → node.duties n near far (in_flight p w) (in_flight (peer_of w.tree.links p) w)

  -- a node stands at its place in the tree: it has a port for each of its links, and keeps at a
  -- moment what a node of its kind keeps
  pub record FitsTree (tree : Topology) (now : Cs) (x : ℕ) (s : node.State) : Type 0 where
    pub kind : NodeKind
    pub kind_is : slice_get tree.kinds x ≡ Some kind
    pub ports : node.ports_of s ≡ length (neighbours tree.links (x + 1))
    pub kept : node.IsKept kind now s

  -- What every network keeps: a sound tree, the nodes of the tree, a clock below the end of time,
  -- and on each link both duties in each application.
  pub record IsKeptNet (w : NetState node.State) : Type 0 where
    pub tree : IsSound w.tree
    pub many : length w.nodes ≡ length w.tree.kinds
    pub nodes : (x : ℕ) (s : node.State) → slice_get w.nodes x ≡ Some s → FitsTree w.tree w.clock x s
    pub clock : w.clock.0 ≤ 2 ^ 61
    pub duties : (n : Name) → AreDutiesMet n w

  -- a node of the tree is a new one, with a port for each of its links
  pub record IsNewAt (tree : Topology) (x : ℕ) (s : node.State) : Type 0 where
    pub kind : NodeKind
    pub kind_is : slice_get tree.kinds x ≡ Some kind
    pub ports : node.ports_of s ≡ length (neighbours tree.links (x + 1))
    pub new : node.IsNew kind s

  -- these are the nodes of a sound tree, and each is a new one
  pub record AreNew (tree : Topology) (nodes : List node.State) : Type 0 where
    pub sound : IsSound tree
    pub many : length nodes ≡ length tree.kinds
    pub new : (x : ℕ) (s : node.State) → slice_get nodes x ≡ Some s → IsNewAt tree x s
