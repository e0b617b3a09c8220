-- A tree as contracts see it, and what its nodes, links and ports are.
use Rattle.std.specs.Prelude.{ℕ, ◌≤◌, List, [], ◌∷◌, flat_map, length}
use Rattle.srp_base.specs.declared.numbers.EgressPort.{EgressPort}
use Rattle.tree_topology.specs.declared.{graph.Link.Link, graph.NodeKind.NodeKind}
use Rattle.tree_topology.specs.{Graph.IsNode, Ports.IsPort, Ports.port_to, Refusal.IsAccepted}

-- the kinds of the nodes and the links between them, both in the order of their numbers
pub record Topology : Type 0 where
  pub kinds : List NodeKind
  pub links : List Link

-- the tree has a node of this number
abbrev pub HasNode : Topology → ℕ → Type 0
HasNode tree x = IsNode (length tree.kinds) x

-- the tree has a link of this number
abbrev pub HasLink : Topology → ℕ → Type 0
HasLink tree n = (1 ≤ n) × (n ≤ length tree.links)

-- the tree has this port
abbrev pub HasPort : Topology → EgressPort → Type 0
HasPort tree p = IsPort (length tree.kinds) tree.links p

-- the ports of all links, link by link, end `a` first
abbrev pub link_ports : Topology → List EgressPort
link_ports tree =
    flat_map (λ l. port_to tree.links l.a.0 l.b.0 ∷ port_to tree.links l.b.0 l.a.0 ∷ []) tree.links

-- the tree is an accepted one
abbrev pub IsSound : Topology → Type 0
IsSound tree = IsAccepted tree.kinds tree.links
