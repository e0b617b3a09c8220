-- The ticks of a run: which steps are made in a tick and in which order, and when a journal tells a
-- run of a scenario.
use Rattle.std.specs.Prelude.{◌≡◌, ◌≢◌, ◌<◌, ℕ, suc, ◌+◌, ◌-◌, ◌==◌, Bool, true, false, if◌then◌else◌, List, [], ◌∷◌, ◌++◌, map, filter, Option, Some, None, option_map, slice_get}
use Rattle.std.specs.{Option.option_map_or, List.flat_map, List.range_with_len, List.AllByRecursion}
use Rattle.srp_base.specs.declared.{numbers.NodeNo.NodeNo, numbers.PortNo.PortNo, numbers.EgressPort.EgressPort, streams.Talker.Talker}
use Rattle.tree_topology.specs.declared.graph.Link.{Link}
use Rattle.tree_topology.specs.{Topology.Topology, Topology.HasPort, Topology.link_ports, Ports.port_to}
use Rattle.topology_file.specs.declared.{entries.StreamEntry.StreamEntry, entries.EventEntry.EventEntry, entries.EventKind.EventKind}
use Rattle.topology_file.specs.declared.entries.EventKind.TheVariants as kinds
use Rattle.topology_file.specs.Plan.{Plan}
use Rattle.attribute_propagation.specs.Ports.{place_of}
use Rattle.node_core.specs.declared.types.AppRequest.TheVariants.{Declare, Withdraw, Talk, Hush, Listen, Unlisten}
use Rattle.node_core.specs.declared.{types.NodeStep.NodeStep, types.PortStep.PortStep}
use Rattle.node_core.specs.declared.types.PortStep.TheVariants as steps
use Rattle.node_core.specs.State.{job_list, ports_of}
use Rattle.world_core.specs.declared.{events.WorldEvent.WorldEvent, events.WorldReply.WorldReply, events.WorldReply.TheVariants.Step, journal.NodeSteps.NodeSteps, journal.Tick.Tick}
use Rattle.world_core.specs.declared.events.WorldEvent.TheVariants.{Request, Port, Lose, Repeat, Forge, Carry, Clock}
use Rattle.world_core.specs.{World.WorldState, World.node_at, World.world_after, World.replies_to, Start.world_of}

-- ---- what the scenario's events are in the network

-- what the Talker of a stream states (IEEE Std 802.1Q-2018, 35.2.2.8): the entry's values, and no
-- latency so far
abbrev pub talker_of_entry : StreamEntry → Talker
talker_of_entry e =
    record {
      stream = e.id;
      dest = e.dest;
      vid = e.vid;
      max_frame = e.octets;
      frames = e.frames;
      priority = e.priority;
      rank = e.rank;
      latency = 0;
    }

-- the entry of a stream's number, counted from 1
abbrev pub stream_at : List StreamEntry → ℕ → Option StreamEntry
stream_at streams n = slice_get streams (n - 1)

-- What happens to a stream is asked of its Talker's station, or of the listening one. A loss, a
-- repeat and a forgery act on the PDUs that wait at `to` and come from `from`.
abbrev pub event_of : List Link → List StreamEntry → EventKind → Option WorldEvent
event_of links streams (kinds.Declare station vid) = Some (Request station (Declare vid))
event_of links streams (kinds.Withdraw station vid) = Some (Request station (Withdraw vid))
event_of links streams (kinds.Talk stream) =
    option_map (λ e. Request e.talker (Talk (talker_of_entry e))) (stream_at streams stream)
event_of links streams (kinds.Hush stream) =
    option_map (λ e. Request e.talker (Hush e.id)) (stream_at streams stream)
event_of links streams (kinds.Listen station stream) =
    option_map (λ e. Request station (Listen e.id)) (stream_at streams stream)
event_of links streams (kinds.Unlisten station stream) =
    option_map (λ e. Request station (Unlisten e.id)) (stream_at streams stream)
event_of links streams (kinds.Lose from to index) = Some (Lose (port_to links to.0 from.0) index)
event_of links streams (kinds.Repeat from to index) = Some (Repeat (port_to links to.0 from.0) index)
event_of links streams (kinds.Forge from to index app octets) =
    Some (Forge (port_to links to.0 from.0) index (record { app = app; octets = octets }))

-- an event with the number of its entry, before others
abbrev pub with_event : ℕ → Option WorldEvent → List (ℕ × WorldEvent) → List (ℕ × WorldEvent)
with_event n None later = later
with_event n (Some event) later = (n, event) ∷ later

-- the events of a tick with the numbers of their entries, of which the first has number n
abbrev pub scripted_from : List Link → List StreamEntry → ℕ → ℕ → List EventEntry → List (ℕ × WorldEvent)
scripted_from links streams t n [] = []
scripted_from links streams t n (e ∷ entries) =
    if e.tick == t
    then with_event n (event_of links streams e.kind) (scripted_from links streams t (n + 1) entries)
    else scripted_from links streams t (n + 1) entries

-- the events of a scenario in a tick, with the numbers of their entries, counted from 1
abbrev pub script_at : Plan → ℕ → List (ℕ × WorldEvent)
script_at plan t = scripted_from plan.tree.links plan.streams t 1 plan.events

-- ---- what happens in a tick

-- the steps of a tick as events of the network, in order
abbrev pub step_events : List NodeSteps → List WorldEvent
step_events nodes = flat_map (λ ns. map (λ st. Port ns.node st.port st.step) ns.steps) nodes

-- the steps of a node behind those of earlier nodes, where it has made some
abbrev pub with_steps : NodeNo → List NodeStep → List NodeSteps → List NodeSteps
with_steps n [] made = made
with_steps n (st ∷ steps) made = made ++ (record { node = n; steps = st ∷ steps }) ∷ []

-- at the end of a tick the PDUs of every port are carried, and the clock goes on
abbrev pub closing_events : Topology → List WorldEvent
closing_events tree = map Carry (link_ports tree) ++ (Clock ∷ [])

-- the network as the scripted events of a tick leave it
abbrev pub after_script : Plan → ℕ → WorldState → WorldState
after_script plan t w = world_after (map (λ e. e.1) (script_at plan t)) w

-- the network after the scripted events and then the steps of a tick, before its PDUs are carried
abbrev pub after_steps : Plan → ℕ → Tick → WorldState → WorldState
after_steps plan t tick w = world_after (step_events tick.steps) (after_script plan t w)

-- all that happens in a tick, in order
abbrev pub tick_events : Plan → ℕ → Tick → List WorldEvent
tick_events plan t tick = map (λ e. e.1) (script_at plan t) ++ step_events tick.steps ++ closing_events plan.tree

-- ---- which ticks are legal

-- the steps that a node made at one of its ports, in order
abbrev pub steps_at_port : PortNo → List NodeStep → List PortStep
steps_at_port port made = map (λ st. st.step) (filter (λ st. st.port.0 == port.0) made)

-- those of a port in a tick
abbrev pub steps_of : EgressPort → List NodeSteps → List PortStep
steps_of p nodes = flat_map (λ ns. if ns.node.0 == p.node.0 then steps_at_port p.port ns.steps else []) nodes

-- the jobs of a port
abbrev pub jobs_of : EgressPort → WorldState → List PortStep
jobs_of p w = option_map_or (λ s. job_list (place_of p.port) s) (node_at p.node w) []

-- the answers of the steps of a tick, in order
abbrev pub step_replies : List NodeSteps → List WorldReply
step_replies nodes = flat_map (λ ns. map (λ st. Step st.reply) ns.steps) nodes

-- the numbers of the nodes ascend strictly
abbrev pub AscendByNode : List NodeSteps → Type 0
AscendByNode [] = Unit {0}
AscendByNode (ns ∷ nodes) = AllByRecursion (λ later. ns.node.0 < later.node.0) nodes × AscendByNode nodes

-- A tick of a journal is legal from a state of the network: its events are those of the scenario
-- with their answers; each port has made exactly its jobs, as the scripted events left its node, in
-- some interleaving with the node's other ports; and each step has its answer at its place.
pub record IsLegalTick (plan : Plan) (t : ℕ) (w : WorldState) (tick : Tick) : Type 0 where
  pub numbers : map (λ e. e.0) tick.events ≡ map (λ e. e.0) (script_at plan t)
  pub answers : map (λ e. e.1) tick.events ≡ replies_to (map (λ e. e.1) (script_at plan t)) w
  pub nodes : AscendByNode tick.steps
  pub some : AllByRecursion (λ ns. ns.steps ≢ []) tick.steps
  pub known : AllByRecursion (λ ns. AllByRecursion (λ st. HasPort plan.tree (record { node = ns.node; port = st.port })) ns.steps) tick.steps
  pub jobs : (p : EgressPort) → HasPort plan.tree p → steps_of p tick.steps ≡ jobs_of p (after_script plan t w)
  pub replies : step_replies tick.steps ≡ replies_to (step_events tick.steps) (after_script plan t w)

-- ---- the canonical order of the steps of a node

-- whether a step is Work: the front PDU of the inbox is taken
abbrev pub is_work : PortStep → Bool
is_work steps.Work = true
is_work _ = false

-- whether a step is Due: all timers that are due fire
abbrev pub is_due : PortStep → Bool
is_due steps.Due = true
is_due _ = false

-- whether a step is Settle: what awaits is settled
abbrev pub is_settle : PortStep → Bool
is_settle steps.Settle = true
is_settle _ = false

-- whether a step is Send, of either application
abbrev pub is_send : PortStep → Bool
is_send (steps.Send app) = true
is_send _ = false

-- the ports of a node, ascending
abbrev pub node_ports : NodeNo → WorldState → List EgressPort
node_ports n w =
    map (λ k. record { node = n; port = record { 0 = k } }) (range_with_len 1 (option_map_or ports_of (node_at n w) 0))

-- the jobs of a node's ports that pass a test, ports ascending
abbrev pub jobs_that : (PortStep → Bool) → NodeNo → WorldState → List (PortNo × PortStep)
jobs_that test n w = flat_map (λ p. map (λ step. (p.port, step)) (filter test (jobs_of p w))) (node_ports n w)

-- the canonical order: all Works, then all Dues, then all Settles, then all Sends, ports ascending
-- in each
abbrev pub canonical_order : NodeNo → WorldState → List (PortNo × PortStep)
canonical_order n w = jobs_that is_work n w ++ jobs_that is_due n w ++ jobs_that is_settle n w ++ jobs_that is_send n w

-- a legal tick in which each node makes its steps in the canonical order
pub record IsCanonicalTick (plan : Plan) (t : ℕ) (w : WorldState) (tick : Tick) : Type 0 where
  pub legal : IsLegalTick plan t w tick
  pub canonical :
      AllByRecursion (λ ns. map (λ st. (st.port, st.step)) ns.steps ≡ canonical_order ns.node (after_script plan t w)) tick.steps

-- ---- runs

-- these ticks, of which the first is tick t, lead from a state to another, at which tick t' begins
abbrev pub LeadTo : (ℕ → WorldState → Tick → Type 0) → Plan → ℕ → WorldState → List Tick → ℕ → WorldState → Type 0
LeadTo IsTick plan t w [] t' end = (t ≡ t') × (end ≡ w)
LeadTo IsTick plan t w (tick ∷ ticks) t' end =
    IsTick t w tick × LeadTo IsTick plan (suc t) (world_after (tick_events plan t tick) w) ticks t' end

-- they are all the scenario's from tick t on
abbrev pub AreTicks : (ℕ → WorldState → Tick → Type 0) → Plan → ℕ → WorldState → List Tick → WorldState → Type 0
AreTicks IsTick plan t w ticks end = LeadTo IsTick plan t w ticks plan.ticks end

-- the ticks lead legally from the start of a scenario to the end
abbrev pub AreLegalTicks : Plan → List Tick → WorldState → Type 0
AreLegalTicks plan ticks end = AreTicks (IsLegalTick plan) plan 0 (world_of plan) ticks end

-- and in the canonical order
abbrev pub AreCanonicalTicks : Plan → List Tick → WorldState → Type 0
AreCanonicalTicks plan ticks end = AreTicks (IsCanonicalTick plan) plan 0 (world_of plan) ticks end
