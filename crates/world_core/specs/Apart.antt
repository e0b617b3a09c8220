-- The steps of nodes that are apart: a step of a port is of its node alone, so the nodes may be
-- taken out of a network, make their steps each by itself, and be put back, with the marks after
-- what their ports took and sent.
use Rattle.std.specs.Prelude.{◌≡◌, ◌≤◌, ◌-◌, List, [], ◌∷◌, map, fold, Some, slice_get, slice_set}
use Rattle.std.specs.{Option.option_map_or, List.AllByRecursion}
use Rattle.srp_base.specs.declared.{numbers.NodeNo.NodeNo, numbers.EgressPort.EgressPort}
use Rattle.tree_topology.specs.Topology.{Topology, HasPort}
use Rattle.attribute_propagation.specs.Ports.{place_of}
use Rattle.node_core.specs.declared.types.NodeEvent.TheVariants as node_events
use Rattle.node_core.specs.declared.{types.NodeStep.NodeStep, types.PortStep.PortStep, types.PortStep.TheVariants.Work, types.PortStep.TheVariants.Send, types.StepReply.StepReply}
use Rattle.node_core.specs.{Leaving.is_leave_all_at, State.NodeState, State.box_at, Step.node_step}
use Rattle.world_core.specs.declared.{events.WorldEvent.WorldEvent, events.WorldEvent.TheVariants.Port, events.WorldReply.WorldReply, events.WorldReply.TheVariants.Step, journal.NodeSteps.NodeSteps}
use Rattle.world_core.specs.{Marks.MarksState, World.WorldState, World.nodes_with, World.marks_taking, World.marks_sending, Ticks.AscendByNode}

-- ---- one node

-- a node's steps as events of the network
abbrev pub events_of : NodeNo → List NodeStep → List WorldEvent
events_of n made = map (λ st. Port n st.port st.step) made

-- what a node's steps answered, as answers of the network
abbrev pub replies_of : List NodeStep → List WorldReply
replies_of made = map (λ st. Step st.reply) made

-- the tree has the ports of a node's steps
abbrev pub HavePorts : Topology → NodeNo → List NodeStep → Type 0
HavePorts tree n made = AllByRecursion (λ st. HasPort tree (record { node = n; port = st.port })) made

-- a node after a step of one of its ports
abbrev pub stepped_node : NodeStep → NodeState → NodeState
stepped_node st s = (node_step (node_events.Port st.port st.step) s).0

-- a node after steps of its ports, one after the other
abbrev pub node_after : List NodeStep → NodeState → NodeState
node_after made s = fold (λ r st. stepped_node st r) s made

-- each of these steps has the answer that the node gives at its place
abbrev pub HaveOwnReplies : List NodeStep → NodeState → Type 0
HaveOwnReplies [] s = Unit {0}
HaveOwnReplies (st ∷ made) s = (st.reply ≡ (node_step (node_events.Port st.port st.step) s).1) × HaveOwnReplies made (stepped_node st s)

-- the marks after a step of a port with its answer: by what the port takes of the node as it was
-- before, or sends
abbrev pub marks_of_step : EgressPort → PortStep → StepReply → NodeState → MarksState → MarksState
marks_of_step p Work reply s m = marks_taking p (slice_get (box_at (place_of p.port) s.inboxes) 0) m
marks_of_step p (Send app) reply s m = marks_sending p app (is_leave_all_at app (place_of p.port) s) (Step reply) m
marks_of_step p _ reply s m = m

-- the marks after steps of a node's ports, one after the other
abbrev pub marks_of_steps : NodeNo → List NodeStep → NodeState → MarksState → MarksState
marks_of_steps n [] s m = m
marks_of_steps n (st ∷ made) s m =
    marks_of_steps n made (stepped_node st s) (marks_of_step (record { node = n; port = st.port }) st.step st.reply s m)

-- a network in which a node has become what these steps make of it, and the marks have followed
abbrev pub after_own : NodeNo → List NodeStep → NodeState → WorldState → WorldState
after_own n made s w =
    record { tree = w.tree; nodes = slice_set w.nodes (n.0 - 1) (node_after made s); marks = marks_of_steps n made s w.marks }

-- ---- all nodes

-- the nodes, each after its own steps, at its place
abbrev pub nodes_after : List NodeSteps → List NodeState → List NodeState
nodes_after made nodes = fold (λ all ns. nodes_with ns.node (node_after ns.steps) all) nodes made

-- the marks after the steps of these nodes, one node after the other, each of which was as it is
-- among the nodes
abbrev pub marks_of_nodes : List NodeSteps → List NodeState → MarksState → MarksState
marks_of_nodes [] nodes m = m
marks_of_nodes (ns ∷ made) nodes m =
    marks_of_nodes made nodes (option_map_or (λ s. marks_of_steps ns.node ns.steps s m) (slice_get nodes (ns.node.0 - 1)) m)

-- a network whose nodes have become what their own steps make of them, and whose marks have
-- followed
abbrev pub after_nodes : List NodeSteps → WorldState → WorldState
after_nodes made w =
    record { tree = w.tree; nodes = nodes_after made w.nodes; marks = marks_of_nodes made w.nodes w.marks }

-- the node is among these, and its steps have its own answers
abbrev pub HasMade : List NodeState → NodeSteps → Type 0
HasMade nodes ns = (1 ≤ ns.node.0) × ((s : NodeState) × (slice_get nodes (ns.node.0 - 1) ≡ Some s) × HaveOwnReplies ns.steps s)

-- steps that nodes of a network have made apart: the nodes ascend, the tree has the ports, and each
-- step has the answer that its node gives at its place among the node's own steps
pub record AreMadeApart (w : WorldState) (made : List NodeSteps) : Type 0 where
  pub nodes : AscendByNode made
  pub ports : AllByRecursion (λ ns. HavePorts w.tree ns.node ns.steps) made
  pub own : AllByRecursion (HasMade w.nodes) made
