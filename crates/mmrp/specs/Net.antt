-- A network that runs MMRP, and one event of it: the network afterwards, and what it answers. It is
-- a network of link_net, whose words are said here of MMRP's nodes and events.
use Rattle.std.specs.Prelude.{ℕ, Bool, List, [], ◌∷◌, fold, Option}
use Rattle.srp_base.specs.declared.{numbers.NodeNo.NodeNo, numbers.EgressPort.EgressPort}
use Rattle.tree_topology.specs.Topology.{Topology}
use Rattle.link_net.specs.declared.{events.NetEvent.NetEvent, events.NetReply.NetReply}
use Rattle.link_net.specs.declared.events.NetEvent.TheVariants as net_events
use Rattle.link_net.specs.declared.events.NetReply.TheVariants as net_replies
use Rattle.link_net.specs.Net as net
use Rattle.link_app.specs.declared.flat.KeyRequest.{KeyRequest}
use Rattle.link_app.specs.declared.flat.KeyRequest.TheVariants.{Declare, Withdraw}
use Rattle.link_app.specs.Wires.{NamedOctets}
use Rattle.link_node.specs.declared.{steps.PortStep.PortStep, steps.StepReply.StepReply}
use Rattle.link_node.specs.declared.steps.PortStep.TheVariants as port_steps
use Rattle.link_node.specs.declared.steps.StepReply.TheVariants as replies
use Rattle.mmrp.specs.declared.{events.GroupEvent.GroupEvent, events.GroupReply.GroupReply, events.GroupStep.GroupStep}
use Rattle.mmrp.specs.declared.events.GroupEvent.TheVariants as events
use Rattle.mmrp.specs.declared.events.GroupReply.TheVariants.{Nothing, Discarded, Received, Fired, Settled, Silent, Sent, Done, Missed}
use Rattle.mmrp.specs.declared.events.GroupStep.TheVariants.{Work, Due, Settle, Send}
use Rattle.mmrp.specs.{Macs.Part, Node.NodeGroups, Node.Waiting, Node.group_meaning}

-- a tree, one clock, and what each node keeps, in the order of their numbers
abbrev pub NetGroups : Type 0
NetGroups = net.NetState NodeGroups

-- the node of a number
abbrev pub node_at : NodeNo → NetGroups → Option NodeGroups
node_at n w = net.node_at n w

-- ---- what there is at a port

-- the participant
abbrev pub part_at : EgressPort → NetGroups → Option Part
part_at p w = net.part_at group_meaning tt p w

-- the PDUs that came in at a port, in order
abbrev pub inbox : EgressPort → NetGroups → Waiting
inbox p w = net.inbox group_meaning p w

-- the PDUs that are to go out from a port, in order
abbrev pub outbox : EgressPort → NetGroups → Waiting
outbox p w = net.outbox group_meaning p w

-- ---- one event

-- the step of a node that a step is
abbrev pub port_step : GroupStep → PortStep (Unit {0}) ℕ
port_step Work = port_steps.Work
port_step Due = port_steps.Due
port_step Settle = port_steps.Settle
port_step Send = port_steps.Send tt

-- the event of a network of nodes that it is
abbrev pub net_event :
    GroupEvent → NetEvent (KeyRequest ℕ) (PortStep (Unit {0}) ℕ) (NamedOctets (Unit {0}))
net_event (events.Join n mac) = net_events.Request n (Declare mac)
net_event (events.Part n mac) = net_events.Request n (Withdraw mac)
net_event (events.Port p step) = net_events.Port p (port_step step)
net_event (events.Lose p index) = net_events.Lose p index
net_event (events.Repeat p index) = net_events.Repeat p index
net_event (events.Carry p) = net_events.Carry p
net_event events.Clock = net_events.Clock

-- the answer that a node's is
abbrev pub node_reply : StepReply → GroupReply
node_reply replies.Nothing = Nothing
node_reply (replies.Discarded place) = Discarded place
node_reply (replies.Received count) = Received count
node_reply (replies.Fired count) = Fired count
node_reply (replies.Settled count) = Settled count
node_reply replies.Silent = Silent
node_reply (replies.Sent count) = Sent count
node_reply replies.Taken = Done

-- the answer that a network's is
abbrev pub reply_of : NetReply StepReply → GroupReply
reply_of (net_replies.Node reply) = node_reply reply
reply_of net_replies.Done = Done
reply_of net_replies.Missed = Missed

-- a network after an event, and its answer
abbrev pub Happened : Type 0
Happened = NetGroups × GroupReply

-- what an event of a network of nodes comes to
abbrev pub after_net_event :
    NetEvent (KeyRequest ℕ) (PortStep (Unit {0}) ℕ) (NamedOctets (Unit {0}))
    → NetGroups → Happened
after_net_event e w = let made = net.net_step group_meaning e w in (made.0, reply_of made.1)

-- one event: the network afterwards, and the answer
abbrev pub group_step : GroupEvent → NetGroups → Happened
group_step (events.Join n mac) w = after_net_event (net_events.Request n (Declare mac)) w
group_step (events.Part n mac) w = after_net_event (net_events.Request n (Withdraw mac)) w
group_step (events.Port p step) w = after_net_event (net_events.Port p (port_step step)) w
group_step (events.Lose p index) w = after_net_event (net_events.Lose p index) w
group_step (events.Repeat p index) w = after_net_event (net_events.Repeat p index) w
group_step (events.Carry p) w = after_net_event (net_events.Carry p) w
group_step events.Clock w = after_net_event net_events.Clock w

-- the network after a list of events
abbrev pub groups_after : List GroupEvent → NetGroups → NetGroups
groups_after es w = fold (λ v e. (group_step e v).0) w es

-- ---- when an event may happen

-- the tree has a station of this number
abbrev pub IsStation : Topology → NodeNo → Type 0
IsStation tree n = net.IsStation tree n

-- its nodes and ports exist, a station joins and parts, and the clock goes on from below 2^61
abbrev pub CanHappen : GroupEvent → NetGroups → Type 0
CanHappen e w = net.CanHappen group_meaning (net_event e) w

-- each of some events may happen in its turn
abbrev pub CanAllHappen : List GroupEvent → NetGroups → Type 0
CanAllHappen [] w = Unit {0}
CanAllHappen (e ∷ es) w = CanHappen e w × CanAllHappen es (group_step e w).0

-- what is joined or parted from is a MAC address, as its type has it
abbrev pub IsEventInRange : GroupEvent → Type 0
IsEventInRange e = net.IsEventInRange group_meaning (net_event e)

-- ---- what the readers say

-- whether nothing is pending anywhere: no PDU is on its way, every Applicant is VO or QA, every
-- Registrar IN or MT, every LeaveAll machine Passive, and no MAC address awaits
abbrev pub is_quiet : NetGroups → Bool
is_quiet w = net.is_quiet group_meaning w

-- whether a node is busy: a PDU came in at some port, a timer is due there, or a MAC address awaits
abbrev pub is_busy_at : NodeNo → NetGroups → Bool
is_busy_at n w = net.is_busy_at group_meaning n w

-- whether every port is sound: it has sent a LeaveAll since a PDU was last lost on its link, if one
-- was
abbrev pub is_in_step : NetGroups → Bool
is_in_step w = net.is_in_step group_meaning w
