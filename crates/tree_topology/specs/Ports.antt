-- The egress ports of a tree: a node with one of its links. A node's ports are numbered from 1 in
-- the order of its links.
use Rattle.std.specs.Prelude.{◌≡◌, ◌==◌, ℕ, ◌-◌, ◌≤◌, List, [], ◌∷◌, length, Option, Some, None, if◌then◌else◌, filter_map, slice_index, slice_index_or, ◌+◌}
use Rattle.std.specs.List.{position_or_len}
use Rattle.srp_base.specs.declared.numbers.EgressPort.{EgressPort}
use Rattle.tree_topology.specs.declared.graph.Link.{Link}
use Rattle.tree_topology.specs.Graph.{IsNode, IsPath, Joined}

-- the other end of a link that has this node as an end
abbrev pub far_end : ℕ → Link → Option ℕ
far_end x l = if l.a.0 == x then Some l.b.0 else (if l.b.0 == x then Some l.a.0 else None)

-- the far ends of a node's links, in the order of the links
abbrev pub neighbours : List Link → ℕ → List ℕ
neighbours links x = filter_map (far_end x) links

-- the place of a node in a list, counted from 0
abbrev pub index_in : ℕ → List ℕ → ℕ
index_in v xs = position_or_len (λ u. u == v) xs

-- the egress port of a node towards its neighbour
abbrev pub port_to : List Link → ℕ → ℕ → EgressPort
port_to links x v = record { node = record { 0 = x }; port = record { 0 = index_in v (neighbours links x) + 1 } }

-- the port exists
abbrev pub IsPort : ℕ → List Link → EgressPort → Type 0
IsPort count links p =
    IsNode count p.node.0 × (1 ≤ p.port.0) × (p.port.0 ≤ length (neighbours links p.node.0))

-- the node at the far end of a port's link
abbrev pub far_node : List Link → EgressPort → ℕ
far_node links p = slice_index (neighbours links p.node.0) (p.port.0 - 1)

-- the other end of a port's link
abbrev pub peer_of : List Link → EgressPort → EgressPort
peer_of links p = port_to links (far_node links p) p.node.0

-- the egress ports of a walk, in order
abbrev pub egress_ports : List Link → ℕ → List ℕ → List EgressPort
egress_ports links x [] = []
egress_ports links x (v ∷ walk) = port_to links x v ∷ egress_ports links v walk

-- the egress ports of the walk without a repeated node from one node to another
abbrev pub IsPortPath : List Link → ℕ → ℕ → List EgressPort → Type 0
IsPortPath links x y ports =
    (walk : List ℕ) × IsPath (Joined links) x walk y × (ports ≡ egress_ports links x walk)

-- a node lies behind a port: the walk without a repeated node from the port's node to it begins
-- with the port's link
abbrev pub LiesBehind : List Link → EgressPort → ℕ → Type 0
LiesBehind links p y = (walk : List ℕ) × IsPath (Joined links) p.node.0 (far_node links p ∷ walk) y

-- the link of this number, counted from 1
abbrev pub link_at : List Link → ℕ → Link
link_at links n = slice_index_or links (n - 1) (record { a = record { 0 = 0 }; b = record { 0 = 0 } })

-- the ports of a link's ends, `a` first
abbrev pub ends_of : List Link → ℕ → EgressPort × EgressPort
ends_of links n =
    let l = link_at links n in (port_to links l.a.0 l.b.0, port_to links l.b.0 l.a.0)
