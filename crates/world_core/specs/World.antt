-- A network as contracts see it, and one event of it: the network afterwards, and what it answers.
use Rattle.std.specs.Prelude.{◌≡◌, ◌<◌, ◌≤◌, length, ◌^◌, ◌+◌, ◌-◌, ℕ, zero, suc, Bool, true, false, ◌&&◌, ◌||◌, nat_le, List, [], ◌∷◌, map, fold, Option, Some, None, option_map, slice_get, slice_set}
use Rattle.std.specs.{Option.option_map_or, List.list_all}
use Rattle.srp_base.specs.declared.{numbers.NodeNo.NodeNo, numbers.EgressPort.EgressPort, mrp.App.App, mrp.App.TheVariants.Mvrp, mrp.App.TheVariants.Msrp}
use Rattle.tree_topology.specs.{Topology.Topology, Topology.HasPort, Ports.peer_of}
use Rattle.tree_topology.specs.declared.graph.NodeKind.TheVariants.{Station}
use Rattle.attribute_propagation.specs.Ports.{IsLinkPort, place_of}
use Rattle.node_core.specs.declared.{types.Wire.Wire, types.NodeEvent.NodeEvent, types.PortStep.PortStep, types.PortStep.TheVariants.Work, types.PortStep.TheVariants.Send, types.StepReply.TheVariants.Sent}
use Rattle.node_core.specs.declared.types.NodeEvent.TheVariants as node_events
use Rattle.mrpdu_codec.specs.Octets.{AreOctets}
use Rattle.node_core.specs.{Wires.IsShort, Leaving.has_leave_all, Leaving.is_leave_all_at, State.NodeState, State.ports_of, State.box_at, State.is_still_node, State.is_sound_at, Step.Stepped, Step.node_step, Proper.AsksInRange, Links.with_outbox, Links.with_carried, Links.lost_at, Links.repeated_at, Links.forged_at, Links.spoilt_at}
use Rattle.world_core.specs.declared.{events.WorldEvent.WorldEvent, events.WorldReply.WorldReply}
use Rattle.world_core.specs.declared.events.WorldEvent.TheVariants.{Request, Port, Lose, Repeat, Forge, Carry, Clock}
use Rattle.world_core.specs.declared.events.WorldReply.TheVariants.{Step, Done, Missed}
use Rattle.world_core.specs.Marks.{MarksState, mark_at, with_both, both_sent, both_took, both_lost, both_copied, both_forged}

-- a tree, a state for each of its nodes in the order of their numbers, and the marks of the ends of
-- its links
pub record WorldState : Type 0 where
  pub tree : Topology
  pub nodes : List NodeState
  pub marks : MarksState

-- the network of a tree, of these nodes and marks
abbrev pub world_with : Topology → List NodeState → MarksState → WorldState
world_with tree nodes marks = record { tree = tree; nodes = nodes; marks = marks }

-- the node of a number
abbrev pub node_at : NodeNo → WorldState → Option NodeState
node_at n w = slice_get w.nodes (n.0 - 1)

-- the network with another state of a node
abbrev pub with_node : NodeNo → NodeState → WorldState → WorldState
with_node n s w = record w { nodes = slice_set w.nodes (n.0 - 1) s }

-- the network after a node has become another
abbrev pub with_changed : NodeNo → (NodeState → NodeState) → WorldState → WorldState
with_changed n change w = option_map_or (λ s. with_node n (change s) w) (node_at n w) w

-- a list of nodes after one of them has become another
abbrev pub nodes_with : NodeNo → (NodeState → NodeState) → List NodeState → List NodeState
nodes_with n change nodes = option_map_or (λ s. slice_set nodes (n.0 - 1) (change s)) (slice_get nodes (n.0 - 1)) nodes

-- a node of a list stands where a port is, and has it
pub record StandsAt (p : EgressPort) (nodes : List NodeState) : Type 0 where
  pub some : 1 ≤ p.node.0
  pub few : p.node.0 ≤ length nodes
  pub port : (s : NodeState) → slice_get nodes (p.node.0 - 1) ≡ Some s → IsLinkPort p.port (ports_of s)

-- ---- the PDUs at a port

-- the PDUs that came in at a port, in order
abbrev pub inbox : EgressPort → WorldState → List Wire
inbox p w = option_map_or (λ s. box_at (place_of p.port) s.inboxes) (node_at p.node w) []

-- the PDUs that are to go out from a port, in order
abbrev pub outbox : EgressPort → WorldState → List Wire
outbox p w = option_map_or (λ s. box_at (place_of p.port) s.outboxes) (node_at p.node w) []

-- the application of the PDU of an index in the inbox
abbrev pub app_of : EgressPort → ℕ → WorldState → Option App
app_of p index w = option_map (λ wire. wire.app) (slice_get (inbox p w) index)

-- whether the inbox of a port reaches to an index, so that a PDU may stand there
abbrev pub reaches : EgressPort → ℕ → WorldState → Bool
reaches p index w = nat_le index (length (inbox p w))

-- ---- one event

-- a network after an event, and its answer
abbrev pub Happened : Type 0
Happened = WorldState × WorldReply

-- the network with a node as a step left it, and the step's answer
abbrev pub after_step : NodeNo → Stepped → WorldState → Happened
after_step n made w = (with_node n made.0 w, Step made.1)

-- a node makes a step; where there is no such node, it is missed
abbrev pub step_of_node : NodeNo → NodeEvent → WorldState → Happened
step_of_node n event w = option_map_or (λ s. after_step n (node_step event s) w) (node_at n w) (w, Missed)

-- neither end of a port's link is sound any more for an application
abbrev pub with_unsound_ends : App → EgressPort → WorldState → WorldState
with_unsound_ends app p w =
    let q = peer_of w.tree.links p in
    with_changed q.node (spoilt_at app (place_of q.port)) (with_changed p.node (spoilt_at app (place_of p.port)) w)

-- the PDU of an index in a port's inbox is lost, where there is one
abbrev pub with_loss : EgressPort → ℕ → Option App → WorldState → Happened
with_loss p index None w = (w, Missed)
with_loss p index (Some app) w = (with_unsound_ends app p (with_changed p.node (lost_at (place_of p.port) index) w), Done)

-- it is there twice
abbrev pub after_repeat : EgressPort → ℕ → Option App → WorldState → Happened
after_repeat p index None w = (w, Missed)
after_repeat p index (Some app) w = (with_changed p.node (repeated_at (place_of p.port) index) w, Done)

-- a PDU that no neighbour sent stands at an index in a port's inbox, where that reaches so far
abbrev pub with_forgery : EgressPort → ℕ → Wire → Bool → WorldState → Happened
with_forgery p index wire false w = (w, Missed)
with_forgery p index wire true w = (with_unsound_ends wire.app p (with_changed p.node (forged_at (place_of p.port) index wire) w), Done)

-- the PDUs of a port's outbox come in at its peer
abbrev pub after_carrying : EgressPort → WorldState → WorldState
after_carrying p w =
    let q = peer_of w.tree.links p in
    with_changed q.node (with_carried (place_of q.port) (outbox p w)) (with_changed p.node (with_outbox (place_of p.port) []) w)

-- the clock of every node goes on
abbrev pub after_clock : WorldState → WorldState
after_clock w = record w { nodes = map (λ s. (node_step node_events.Clock s).0) w.nodes }

-- ---- the marks

-- what happened, with other marks
abbrev pub with_marks : MarksState → Happened → Happened
with_marks m made = (record made.0 { marks = m }, made.1)

-- whether the next PDU that an application sends at a port has LeaveAll
abbrev pub has_leave_all_next : App → EgressPort → WorldState → Bool
has_leave_all_next app p w = option_map_or (λ s. is_leave_all_at app (place_of p.port) s) (node_at p.node w) false

-- the marks after a port has taken this PDU, if any: whether it has LeaveAll counts only where the
-- way is clear
abbrev pub marks_taking : EgressPort → Option Wire → MarksState → MarksState
marks_taking p None m = m
marks_taking p (Some wire) m = with_both wire.app p (both_took ((mark_at wire.app p m).clear && has_leave_all wire)) m

-- after an application has sent a PDU at a port, as its answer says, or was silent
abbrev pub marks_sending : EgressPort → App → (leave_all : Bool) → WorldReply → MarksState → MarksState
marks_sending p app leave_all (Step (Sent octets)) m = with_both app p (both_sent leave_all) m
marks_sending p app leave_all _ m = m

-- after a step of a port with its answer
abbrev pub marks_stepping : EgressPort → PortStep → WorldReply → WorldState → MarksState
marks_stepping p Work reply w = marks_taking p (slice_get (inbox p w) 0) w.marks
marks_stepping p (Send app) reply w = marks_sending p app (has_leave_all_next app p w) reply w.marks
marks_stepping p _ reply w = w.marks

-- after a loss of a PDU of an application, a copy of it, and a forgery, where there was one
abbrev pub marks_losing : EgressPort → Option App → MarksState → MarksState
marks_losing p None m = m
marks_losing p (Some app) m = with_both app p both_lost m

abbrev pub marks_copying : EgressPort → Option App → MarksState → MarksState
marks_copying p None m = m
marks_copying p (Some app) m = with_both app p both_copied m

abbrev pub marks_forging : EgressPort → App → Bool → MarksState → MarksState
marks_forging p app false m = m
marks_forging p app true m = with_both app p both_forged m

-- a step of a port, and the marks after it
abbrev pub after_port : EgressPort → PortStep → Happened → WorldState → Happened
after_port p step made w = with_marks (marks_stepping p step made.1 w) made

-- one event: the network afterwards, with its marks, and the answer
abbrev pub world_step : WorldEvent → WorldState → Happened
world_step (Request n request) w = step_of_node n (node_events.Request request) w
world_step (Port n port step) w =
    after_port (record { node = n; port = port }) step (step_of_node n (node_events.Port port step) w) w
world_step (Lose p index) w =
    with_marks (marks_losing p (app_of p index w) w.marks) (with_loss p index (app_of p index w) w)
world_step (Repeat p index) w =
    with_marks (marks_copying p (app_of p index w) w.marks) (after_repeat p index (app_of p index w) w)
world_step (Forge p index wire) w =
    with_marks (marks_forging p wire.app (reaches p index w) w.marks) (with_forgery p index wire (reaches p index w) w)
world_step (Carry p) w = (after_carrying p w, Done)
world_step Clock w = (after_clock w, Done)

-- ---- lists of events

-- the network after a list of events
abbrev pub world_after : List WorldEvent → WorldState → WorldState
world_after events w = fold (λ v e. (world_step e v).0) w events

-- what they answer, each at its place
abbrev pub replies_to : List WorldEvent → WorldState → List WorldReply
replies_to [] w = []
replies_to (e ∷ events) w = (world_step e w).1 ∷ replies_to events (world_step e w).0

-- ---- when an event may happen

-- its nodes and ports exist, a request is made at a station, a forged PDU has at most 1,500 octets,
-- and the clock goes on from below 2^61
abbrev pub CanHappen : WorldEvent → WorldState → Type 0
CanHappen (Request n request) w = (1 ≤ n.0) × ((s : NodeState) × (node_at n w ≡ Some s) × (s.kind ≡ Station))
CanHappen (Port n port step) w = HasPort w.tree (record { node = n; port = port })
CanHappen (Lose p index) w = HasPort w.tree p
CanHappen (Repeat p index) w = HasPort w.tree p
CanHappen (Forge p index wire) w = HasPort w.tree p × IsShort wire
CanHappen (Carry p) w = HasPort w.tree p
CanHappen Clock w = (n : NodeNo) (s : NodeState) → node_at n w ≡ Some s → s.clock.0 < 2 ^ 61

-- each of some events may happen in its turn
abbrev pub CanAllHappen : List WorldEvent → WorldState → Type 0
CanAllHappen [] w = Unit {0}
CanAllHappen (e ∷ events) w = CanHappen e w × CanAllHappen events (world_step e w).0

-- the request of an event is of what fits: of a VID (IEEE Std 802.1Q-2018, 9.6), or of a Talker
-- whose numbers fit in their fields (35.2.2.8), and a forged PDU is of octets, as the types of a
-- request and of a PDU have it
abbrev pub IsEventInRange : WorldEvent → Type 0
IsEventInRange (Request n request) = AsksInRange request
IsEventInRange (Port n port step) = Unit {0}
IsEventInRange (Lose p index) = Unit {0}
IsEventInRange (Repeat p index) = Unit {0}
IsEventInRange (Forge p index wire) = AreOctets wire.octets
IsEventInRange (Carry p) = Unit {0}
IsEventInRange Clock = Unit {0}

-- ---- what the readers say

-- whether nothing is pending anywhere: no PDU is on its way, every Applicant is VO or QA, every
-- Registrar IN or MT, every LeaveAll machine Passive, and no key awaits
abbrev pub is_quiet : WorldState → Bool
is_quiet w = list_all is_still_node w.nodes

-- whether an application at a port is sound: it has sent a LeaveAll since a PDU of the application
-- was last lost or forged on the port's link, if one was; or since then it took one of its
-- neighbour's on a clear way: the neighbour had sent one while nothing was on the way to it, and
-- the port hadn't said anything since
abbrev pub is_sound_in : App → EgressPort → NodeState → MarksState → Bool
is_sound_in app p s m = (mark_at app p m).assured || is_sound_at app (place_of p.port) s

-- whether both are, at the ports of a node from one of its ports on, of which there are so many
abbrev pub are_ports_sound : NodeNo → NodeState → MarksState → ℕ → ℕ → Bool
are_ports_sound n s m from zero = true
are_ports_sound n s m from (suc count) =
    let p : EgressPort = record { node = n; port = record { 0 = from } } in
    is_sound_in Mvrp p s m && is_sound_in Msrp p s m && are_ports_sound n s m (from + 1) count

-- the same of these nodes, of which the first has this number
abbrev pub are_nodes_sound : ℕ → List NodeState → MarksState → Bool
are_nodes_sound x [] m = true
are_nodes_sound x (s ∷ nodes) m = are_ports_sound (record { 0 = x }) s m 1 (ports_of s) && are_nodes_sound (x + 1) nodes m

-- whether both applications of every port of the network are sound
abbrev pub is_in_step : WorldState → Bool
is_in_step w = are_nodes_sound 1 w.nodes w.marks
