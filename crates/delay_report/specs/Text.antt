-- What `srpnet delays` prints of a run: how long frames of each stream wait at each port and take
-- to each Listener, at most, and how long those of the scenario took.
use Rattle.std.specs.Prelude.{ℕ, ◌+◌, ◌-◌, ◌++◌, if◌then◌else◌, List, [], ◌∷◌, length, flat_map, Option, None, Some, slice_get}
use Rattle.std.specs.Int.{div_ceil}
use Rattle.srp_base.specs.Text.{whole_of}
use Rattle.srp_base.specs.declared.{numbers.EgressPort.EgressPort, numbers.NodeNo.NodeNo, bandwidth.Class.Class, bandwidth.Class.TheVariants.A, bandwidth.Class.TheVariants.B}
use Rattle.tree_topology.specs.declared.graph.NodeKind.{NodeKind}
use Rattle.tree_topology.specs.declared.graph.NodeKind.TheVariants.{Station, Bridge}
use Rattle.tree_topology.specs.{Walk.path_between, Topology.link_ports}
use Rattle.frame_flow.specs.declared.result.PortFlow.{PortFlow}
use Rattle.frame_flow.specs.Copies.{flow_at}
use Rattle.topology_file.specs.Plan.{Plan}
use Rattle.scenario_frames.specs.PlanFrames.{plan_frames}
use Rattle.class_delays.specs.declared.delays.FedStream.{FedStream}
use Rattle.class_delays.specs.Table.{delays_at, stream_in}
use Rattle.scenario_delays.specs.declared.{answers.StreamAnswer.StreamAnswer, facts.ClassBounds.ClassBounds, facts.DelayFacts.DelayFacts}
use Rattle.scenario_delays.specs.declared.facts.ClassBounds.TheVariants.{Reckoned, Unbounded}
use Rattle.scenario_delays.specs.Facts.{bounds_of}
use Rattle.msrp.specs.Side.{has_listen}
use Rattle.node_core.specs.State.{NodeState}
use Rattle.world_core.specs.World.{WorldState, is_quiet}
use Rattle.report_words.specs.Names.{name_of, port_name}
use Rattle.delay_report.specs.Lines.{conforms_line, delay_line, hop_line, quiet_line, steady_line, unbounded_line}
use Rattle.delay_report.specs.Seen.{longest_of, taken_at}

-- a run of a scenario: what is known of its delays, and the flow of its frames
pub record DelayRun : Type 0 where
  pub plan : Plan
  pub facts : DelayFacts
  pub flows : List PortFlow

-- ---- what is reckoned

-- what is reckoned for a stream at a port, where it is fed there and its class has bounds
abbrev pub reckoned_in : StreamAnswer → EgressPort → ClassBounds → Option FedStream
reckoned_in a p (Reckoned ports) = stream_in a.stream (delays_at ports p)
reckoned_in a p (Unbounded at) = None

-- ---- the ports

-- the line of a class that has no bounds
abbrev pub unbounded_at : Plan → Class → ClassBounds → List ℕ
unbounded_at plan class (Reckoned ports) = []
unbounded_at plan class (Unbounded p) = unbounded_line class (port_name plan.nodes plan.tree.links p)

-- the line of a stream at a port of this name, where it is fed there
abbrev pub hop_of : List ℕ → StreamAnswer → Option FedStream → List ℕ
hop_of port a None = []
hop_of port a (Some f) = hop_line port a.stream.id a.class f.wait f.late

-- those of a port of this name, ascending by StreamID
abbrev pub named_hops : List ℕ → DelayFacts → EgressPort → List ℕ
named_hops port facts p = flat_map (λ a. hop_of port a (reckoned_in a p (bounds_of a.class facts))) facts.order

abbrev pub port_hops : Plan → DelayFacts → EgressPort → List ℕ
port_hops plan facts p = named_hops (port_name plan.nodes plan.tree.links p) facts p

-- ---- the Listeners

-- the last of some ports
abbrev pub last_of : List EgressPort → Option EgressPort
last_of ports = slice_get ports (length ports - 1)

-- the line of a station at the end of a path, by what is reckoned for the stream at its last port,
-- where it is fed there, and by the ps that its frames took through that
abbrev pub line_to : List ℕ → StreamAnswer → List EgressPort → List ℕ → Option FedStream → List ℕ
line_to station a path times None = []
line_to station a path times (Some f) =
    delay_line a.stream.id station (length path) (div_ceil f.spent 1000) (div_ceil (longest_of times) 1000)
    (length times)

-- by the last port of the path; nothing is said of the Talker's own station, to which no port leads
abbrev pub line_at : DelayRun → List ℕ → StreamAnswer → List EgressPort → Option EgressPort → List ℕ
line_at r station a path None = []
line_at r station a path (Some last) =
    line_to station a path (taken_at a.stream.id (plan_frames r.plan) (flow_at r.flows last))
    (reckoned_in a last (bounds_of a.class r.facts))

abbrev pub line_on : DelayRun → List ℕ → StreamAnswer → List EgressPort → List ℕ
line_on r station a path = line_at r station a path (last_of path)

-- the line of a station whose application listens to the stream
abbrev pub station_delay : DelayRun → StreamAnswer → NodeNo → NodeState → List ℕ
station_delay r a node state =
    if has_listen a.stream.id state.streams
    then line_on r (name_of r.plan.nodes node) a (path_between r.plan.tree.links a.stream.talker.0 node.0)
    else []

abbrev pub node_delay : DelayRun → StreamAnswer → NodeNo → NodeState → NodeKind → List ℕ
node_delay r a node state Bridge = []
node_delay r a node state Station = station_delay r a node state

-- those of some nodes, of which the first has number n
abbrev pub stream_delays : DelayRun → StreamAnswer → ℕ → List NodeState → List ℕ
stream_delays r a n [] = []
stream_delays r a n (state ∷ states) =
    node_delay r a (record { 0 = n }) state state.kind
    ++ stream_delays r a (n + 1) states

-- ---- the whole

-- whether the run is steady, and which class has no bounds
abbrev pub first_lines : Plan → DelayFacts → List ℕ
first_lines plan facts = whole_of (
    steady_line facts.steady ∷ unbounded_at plan A facts.class_a ∷ unbounded_at plan B facts.class_b ∷ [])

-- what is printed: these; for each port, link by link, end `a` first, each stream that is fed there,
-- ascending by StreamID; for each stream of class A or B, in the order of the file, whether its
-- frames conform; for each of them each station that listens to it and to which it is fed, ascending
-- by node; and whether the network is quiet
abbrev pub delays_text : DelayRun → WorldState → List ℕ
delays_text r world = whole_of (
    first_lines r.plan r.facts
    ∷ flat_map (port_hops r.plan r.facts) (link_ports r.plan.tree)
    ∷ flat_map (λ a. conforms_line a.stream.id a.conforms) r.facts.answers
    ∷ flat_map (λ a. stream_delays r a 1 world.nodes) r.facts.answers
    ∷ quiet_line (is_quiet world) ∷ [])
