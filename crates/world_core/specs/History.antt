-- The changes of a run that goes on, port by port; and a tick of which only the nodes that acted
-- are noted.
use Rattle.std.specs.Prelude.{◌≡◌, ◌≤◌, ℕ, zero, suc, ◌+◌, Bool, ◌&&◌, ◌==◌, not, if◌then◌else◌, List, [], ◌∷◌, map, flat_map, length}
use Rattle.std.specs.List.{AllByRecursion, list_any, range_with_len}
use Rattle.srp_base.specs.declared.{numbers.NodeNo.NodeNo, numbers.EgressPort.EgressPort, ports.PortChange.PortChange}
use Rattle.tree_topology.specs.Topology.{Topology, HasPort}
use Rattle.frame_flow.specs.{Force.changes_at, Copies.ports_at, Copies.port_of}
use Rattle.attribute_propagation.specs.Ports.{place_of}
use Rattle.node_core.specs.State.{NodeState}
use Rattle.world_core.specs.declared.journal.NodeSteps.{NodeSteps}
use Rattle.world_core.specs.{World.WorldState, Ticks.is_send, Timeline.node_force, Timeline.force_at, Timeline.changes_noted, Timeline.tree_ports}

-- a tree, and changes of its ports
pub record HistoryState : Type 0 where
  pub tree : Topology
  pub changes : List PortChange

-- ---- the changes of each port in a list of their own

-- a list for each port of a tree: node by node, and port by port
abbrev pub by_port : Topology → (EgressPort → List PortChange) → List (List (List PortChange))
by_port tree own = map (λ x. map own (ports_at tree.links x)) (range_with_len 1 (length tree.kinds))

-- the changes of a node's ports, those of one port behind those of another
abbrev pub joined_ports : List (List PortChange) → List PortChange
joined_ports ports = flat_map (λ changes. changes) ports

-- all changes, those of one node behind those of another
abbrev pub all_changes_of : List (List (List PortChange)) → List PortChange
all_changes_of nodes = flat_map joined_ports nodes

-- each list has just the changes of its port
abbrev pub IsByPort : Topology → List (List (List PortChange)) → Type 0
IsByPort tree nodes = nodes ≡ by_port tree (changes_at (all_changes_of nodes))

-- ---- who acts in a tick

-- a tree has the ports of the steps that a node made
abbrev pub HasPortsOf : Topology → NodeSteps → Type 0
HasPortsOf tree made = AllByRecursion (λ st. HasPort tree (record { node = made.node; port = st.port })) made.steps

-- whether among the steps that a node made there is one other than Send
abbrev pub is_act : NodeSteps → Bool
is_act made = list_any (λ st. not (is_send st.step)) made.steps

-- whether these steps are those of a node, with one other than Send among them
abbrev pub acts_at : NodeNo → NodeSteps → Bool
acts_at n made = (made.node.0 == n.0) && is_act made

-- whether among the steps of a tick a node has made one other than Send
abbrev pub has_acted : NodeNo → List NodeSteps → Bool
has_acted n steps = list_any (acts_at n) steps

-- a port's changes, with the one that they lack in a tick where the port's node has acted
abbrev pub act_noted : ℕ → List NodeSteps → WorldState → EgressPort → List PortChange → List PortChange
act_noted tick steps w p changes =
    if has_acted p.node steps then changes_noted tick p (force_at p w) changes else changes

-- the changes of all ports, those of the nodes that have acted with the ones that they lack
abbrev pub acts_noted : ℕ → List NodeSteps → WorldState → List PortChange → List PortChange
acts_noted tick steps w changes =
    flat_map (λ p. act_noted tick steps w p (changes_at changes p)) (tree_ports w.tree)

-- ---- one node that is noted

-- changes of a port come in a tick or before it
abbrev pub ComeUpTo : ℕ → List PortChange → Type 0
ComeUpTo tick changes = AllByRecursion (λ c. c.tick ≤ tick) changes

-- the changes of a port, where it is one of a node that is noted
abbrev pub node_noted : ℕ → NodeNo → WorldState → EgressPort → List PortChange → List PortChange
node_noted tick n w p changes = if n.0 == p.node.0 then changes_noted tick p (force_at p w) changes else changes

-- the changes of a node's ports, of which the first has number k, with those of the first `count`
-- noted
abbrev pub ports_noted : ℕ → NodeState → NodeNo → ℕ → ℕ → List (List PortChange) → List (List PortChange)
ports_noted tick s n k zero ports = ports
ports_noted tick s n k (suc count) [] = []
ports_noted tick s n k (suc count) (changes ∷ ports) =
    let p = port_of n.0 k in
    changes_noted tick p (node_force (place_of p.port) s) changes ∷ ports_noted tick s n (k + 1) count ports
