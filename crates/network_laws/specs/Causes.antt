-- What a network at rest says of causes: why a Talker failed, whom a port's wants come of, and what
-- a scenario lays down of each port (IEEE Std 802.1Q-2018, 34.3, 35.1.4, 35.2.4).
use Rattle.std.specs.Prelude.{◌≡◌, ℕ, ◌-◌, Bool, true, false, not, ◌&&◌, Option, Some, slice_get, option_and_then}
use Rattle.std.specs.Option.{option_map_or}
use Rattle.srp_base.specs.declared.{bandwidth.Class.Class, numbers.EgressPort.EgressPort, numbers.NodeNo.NodeNo, numbers.StreamId.StreamId, streams.Failure.Failure, streams.Talker.Talker, streams.TalkerReg.TalkerReg}
use Rattle.srp_base.specs.declared.streams.TalkerReg.TheVariants.{Absent, Failed}
use Rattle.stream_importance.specs.declared.entry.Want.{Want}
use Rattle.tree_topology.specs.{Topology.HasNode, Topology.HasPort, Ports.peer_of, Walk.is_behind}
use Rattle.topology_file.specs.declared.entries.NodeEntry.{NodeEntry}
use Rattle.topology_file.specs.Plan.{Plan}
use Rattle.msrp_talker.specs.TalkerOut.{check_of, class_of_priority}
use Rattle.msrp.specs.{PortState.PortState, Domain.class_in, Domain.has_class, Stream.edge_at, Stream.first_talker, Stream.talk_of, Side.seen_by}
use Rattle.attribute_propagation.specs.Ports.{place_of}
use Rattle.node_core.specs.State.{NodeState}
use Rattle.world_core.specs.{Start.domain_set, World.WorldState, World.node_at}
use Rattle.network_laws.specs.Streams.{hears_ready, is_bandwidth_code, is_listened_at, is_talked_at, node_of, talker_at_place, talking_node, want_at, IsOnPath, IsRefusedAt}

-- ---- why a Talker failed

-- what is registered of a stream's Talker at the first port of the node of a number, a station's
-- only one; nothing where there is no such node
abbrev pub talker_at_node : WorldState → StreamId → ℕ → TalkerReg
talker_at_node w stream l = option_map_or (talker_at_place stream 0) (node_of l w) Absent

-- the Talker of a stream that the application of the node of a number talks
abbrev pub talk_at : WorldState → StreamId → ℕ → Option Talker
talk_at w stream t =
    option_and_then (λ (s : NodeState). talk_of stream s.streams.talks) (node_of t w)

-- the SR class of that Talker
abbrev pub class_talked : WorldState → StreamId → ℕ → Option Class
class_talked w stream t =
    option_and_then (λ (talker : Talker). class_of_priority talker.priority) (talk_at w stream t)

-- Why a port of a node refuses what station t talks, by the failure's code: bookings leave no place
-- there, the port is at the boundary of the domain of the Talker's class, or no port can serve it.
pub data HasReason (w : WorldState) (stream : StreamId) (t : ℕ) (failure : Failure) (p : EgressPort) (node : NodeState) (port : PortState) : Type 0 where
  for_bandwidth : is_bandwidth_code failure.code ≡ true → IsRefusedAt w stream t failure p
      → HasReason w stream t failure p node port
  at_boundary : failure.code ≡ 8 → edge_at port (seen_by node.streams stream).talkers ≡ true
      → class_in (first_talker (seen_by node.streams stream).talkers) ≡ class_talked w stream t
      → HasReason w stream t failure p node port
  at_each_port : option_and_then check_of (talk_at w stream t) ≡ Some failure.code
      → HasReason w stream t failure p node port

-- A failure at a node has its cause at a port on the path from the station that talks: the port's
-- node has the failure's BridgeID, and the port refuses what the station talks.
pub record HasCause (w : WorldState) (stream : StreamId) (l : ℕ) (failure : Failure) : Type 0 where
  pub t : ℕ
  pub talker : talking_node w stream ≡ Some t
  pub p : EgressPort
  pub on_path : IsOnPath w t l p
  pub has : HasPort w.tree p
  pub node : NodeState
  pub node_is : node_at p.node w ≡ Some node
  pub named : node.bridge ≡ failure.bridge
  pub port : PortState
  pub port_is : slice_get node.streams.ports (place_of p.port) ≡ Some port
  pub reason : HasReason w stream t failure p node port

-- a Talker Failed is registered at the first port of the node of a number
pub record HasFailure (w : WorldState) (stream : StreamId) (l : ℕ) : Type 0 where
  pub talker : Talker
  pub failure : Failure
  pub registered : talker_at_node w stream l ≡ Failed talker failure

-- ---- whom a port's wants come of

-- A want that a port keeps is what the station that talks the stream asks; that station isn't
-- behind the port, and another one is that listens to the stream and hears Ready.
pub record IsWantedBehind (w : WorldState) (stream : StreamId) (p : EgressPort) (want : Want) : Type 0 where
  pub t : ℕ
  pub talker : talking_node w stream ≡ Some t
  pub asked : want_at w stream t ≡ Some want
  pub before : is_behind w.tree.links p t ≡ false
  pub l : ℕ
  pub node : HasNode w.tree l
  pub behind : is_behind w.tree.links p l ≡ true
  pub listens : is_listened_at w stream l ≡ true
  pub is_other : is_talked_at w stream l ≡ false
  pub ready : hears_ready w stream l ≡ true

-- ---- the boundaries of domains

-- whether a scenario has the node of a number declare the Domain value of a class
abbrev pub declares_class : Plan → NodeNo → Class → Bool
declares_class plan x class =
    option_map_or (λ (entry : NodeEntry). has_class (domain_set plan.domains entry.domain) class)
    (slice_get plan.nodes (x.0 - 1)) false

-- whether by a scenario a port is at the boundary of the domain of a class: the scenario has
-- domains, and the node at one of the ends of the link doesn't declare the class's Domain value
abbrev pub is_boundary_in : Plan → Class → EgressPort → Bool
is_boundary_in plan class p =
    plan.domains
    && not (declares_class plan p.node class
    && declares_class plan (peer_of plan.tree.links p).node class)
