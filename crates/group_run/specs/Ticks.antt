-- The ticks of a group scenario, in the one order in which nobody waits for anybody: which events a
-- tick has, and the run that is made of all ticks.
use Rattle.std.specs.Prelude.{ℕ, zero, suc, ◌%◌, ◌==◌, Bool, if◌then◌else◌, List, [], ◌∷◌, ◌++◌, map, filter, fold, length, replicate, Option, Some, None}
use Rattle.std.specs.List.{flat_map, range_with_len}
use Rattle.srp_base.specs.declared.{numbers.Cs.Cs, numbers.NodeNo.NodeNo, numbers.EgressPort.EgressPort}
use Rattle.tree_topology.specs.declared.graph.Link.{Link}
use Rattle.tree_topology.specs.{Topology.Topology, Topology.link_ports, Ports.neighbours, Ports.port_to}
use Rattle.group_file.specs.declared.entries.GroupKind.{GroupKind}
use Rattle.group_file.specs.declared.entries.GroupKind.TheVariants as kinds
use Rattle.group_file.specs.Plan.{GroupPlan}
use Rattle.mmrp.specs.declared.{events.GroupEvent.GroupEvent, events.GroupReply.GroupReply, events.GroupStep.GroupStep}
use Rattle.mmrp.specs.declared.events.GroupEvent.TheVariants as events
use Rattle.mmrp.specs.declared.events.GroupStep.TheVariants.{Work, Due, Settle, Send}
use Rattle.mmrp.specs.{Net.NetGroups, Net.group_step, Net.inbox, Net.is_busy_at, Start.net_of}
use Rattle.group_run.specs.declared.run.GroupRun.{GroupRun}

-- ---- what the scenario's events are in the network

-- a loss and a copy act on the PDUs that wait at `to` and come from `from`
abbrev pub event_of : List Link → GroupKind → GroupEvent
event_of links (kinds.Join station mac) = events.Join station mac
event_of links (kinds.Part station mac) = events.Part station mac
event_of links (kinds.Lose from to index) = events.Lose (port_to links to.0 from.0) index
event_of links (kinds.Repeat from to index) = events.Repeat (port_to links to.0 from.0) index

-- the events of a scenario in a tick, in the order of the file
abbrev pub script_at : GroupPlan → ℕ → List GroupEvent
script_at plan t = map (λ e. event_of plan.tree.links e.kind) (filter (λ e. e.tick == t) plan.events)

-- ---- the steps of a tick

-- PDUs are sent each 20 cs (IEEE Std 802.1Q-2018, 10.7.11: JoinTime)
abbrev pub join_time : ℕ
join_time = 20

-- whether a moment is one at which ports send
abbrev pub is_sending_time : Cs → Bool
is_sending_time now = now.0 % join_time == 0

-- the port of a number at a node
abbrev pub port_at : NodeNo → ℕ → EgressPort
port_at n k = record { node = n; port = record { 0 = k } }

-- the ports of a node, ascending
abbrev pub node_ports : Topology → NodeNo → List EgressPort
node_ports tree n = map (port_at n) (range_with_len 1 (length (neighbours tree.links n.0)))

-- a step of a port for each PDU that came in there
abbrev pub works_at : NetGroups → EgressPort → List GroupEvent
works_at w p = replicate (length (inbox p w)) (events.Port p Work)

-- one step of each of some ports
abbrev pub each_makes : GroupStep → List EgressPort → List GroupEvent
each_makes step ports = map (λ p. events.Port p step) ports

-- what a busy node does: all its PDUs are taken, then all timers fire, then all that awaits is
-- settled, ports ascending in each
abbrev pub busy_steps : NetGroups → List EgressPort → List GroupEvent
busy_steps w ports = flat_map (works_at w) ports ++ each_makes Due ports ++ each_makes Settle ports

-- the steps of a node: those of a busy one, and at a moment of sending each port sends behind them
abbrev pub node_steps : NetGroups → NodeNo → List GroupEvent
node_steps w n =
    let ports = node_ports w.tree n in
    (if is_busy_at n w then busy_steps w ports else []) ++ (if is_sending_time w.clock then each_makes Send ports else [])

-- those of all nodes, ascending
abbrev pub net_steps : NetGroups → List GroupEvent
net_steps w = flat_map (λ x. node_steps w (record { 0 = x })) (range_with_len 1 (length w.tree.kinds))

-- ---- the end of a tick

-- the PDUs of every port are carried to its peer, link by link, those of end `a` first
abbrev pub carries : Topology → List GroupEvent
carries tree = map events.Carry (link_ports tree)

-- ---- a run, event by event

-- the port that makes a step, where the event is one
abbrev pub step_port : GroupEvent → Option EgressPort
step_port (events.Join n mac) = None
step_port (events.Part n mac) = None
step_port (events.Port p step) = Some p
step_port (events.Lose p index) = None
step_port (events.Repeat p index) = None
step_port (events.Carry p) = None
step_port events.Clock = None

-- the answer of a step with the step's port; nothing of any other event
abbrev pub answer_of : Option EgressPort → GroupReply → List (EgressPort × GroupReply)
answer_of None reply = []
answer_of (Some p) reply = (p, reply) ∷ []

-- a run with one event more
abbrev pub after_event : GroupRun → GroupEvent → GroupRun
after_event run e =
    let made = group_step e run.net in
    record { net = made.0; replies = run.replies ++ answer_of (step_port e) made.1 }

-- a run with some events more, one after the other
abbrev pub after_events : List GroupEvent → GroupRun → GroupRun
after_events es run = fold after_event run es

-- A run with one tick more, whose number is the clock's: the events of the file; then the steps of
-- every node, as those events left it; then the carrying of all PDUs; and the clock goes on.
abbrev pub after_tick : GroupPlan → GroupRun → GroupRun
after_tick plan run =
    let scripted = after_events (script_at plan run.net.clock.0) run in
    let stepped = after_events (net_steps scripted.net) scripted in
    let carried = after_events (carries plan.tree) stepped in
    after_event carried events.Clock

-- a scenario's network at its start, and no answers
abbrev pub start_of : GroupPlan → GroupRun
start_of plan = record { net = net_of plan.tree plan.leave_time plan.periodic plan.nodes plan.links; replies = [] }

-- the run through the first ticks
abbrev pub after_ticks : GroupPlan → ℕ → GroupRun
after_ticks plan zero = start_of plan
after_ticks plan (suc n) = after_tick plan (after_ticks plan n)

-- the run of a scenario through all its ticks
abbrev pub run_of : GroupPlan → GroupRun
run_of plan = after_ticks plan plan.ticks
