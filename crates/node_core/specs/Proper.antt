-- What every node keeps: VIDs, numbers that fit in their fields (IEEE Std 802.1Q-2018, 9.6,
-- 35.2.2.8), and a bridge that asks for nothing of its own; and the steps that name none but such.
use Rattle.std.specs.Prelude.{◌≡◌, ℕ, List, [], Ok}
use Rattle.std.specs.List.{AllByRecursion}
use Rattle.srp_base.specs.declared.{mrp.App.App, mrp.App.TheVariants.Mvrp, mrp.App.TheVariants.Msrp}
use Rattle.msrp_codec.specs.declared.pdu.MsrpPdu.{MsrpPdu}
use Rattle.msrp_codec.specs.{FirstValue.IsTalker, Meaning.msrp_reading, Writing.AreInRange}
use Rattle.mvrp.specs.Vids.{IsVid, AreOfVids}
use Rattle.msrp.specs.{PortState.PortState, Proper.AreOfRange, Proper.Setup, Proper.setups_of}
use Rattle.tree_topology.specs.declared.graph.NodeKind.TheVariants.{Bridge}
use Rattle.node_core.specs.declared.{types.Wire.Wire, types.AppRequest.AppRequest, types.NodeEvent.NodeEvent}
use Rattle.node_core.specs.declared.types.AppRequest.TheVariants.{Declare, Withdraw, Talk, Hush, Listen, Unlisten}
use Rattle.node_core.specs.declared.types.NodeEvent.TheVariants.{Request, Port, Clock}
use Rattle.node_core.specs.{State.NodeState, Links.IsKeptNode}

-- the octets of a PDU of an application say nothing that doesn't fit: those of MSRP, where they
-- read, read as events that fit in their fields
abbrev pub SayWhatFits : App → List ℕ → Type 0
SayWhatFits Mvrp octets = Unit {0}
SayWhatFits Msrp octets = (pdu : MsrpPdu) → msrp_reading octets ≡ Ok pdu → AreInRange pdu.events

-- the octets of a PDU that waits say nothing that doesn't fit in its application
abbrev pub IsProperWire : Wire → Type 0
IsProperWire wire = SayWhatFits wire.app wire.octets

-- so it is with the octets of each PDU in an inbox or an outbox
abbrev pub AreProperWires : List Wire → Type 0
AreProperWires wires = AllByRecursion IsProperWire wires

-- an application that asks for nothing: it declares no VID, talks no stream and listens to none
pub record AsksNothing (s : NodeState) : Type 0 where
  pub own : s.vlans.own ≡ []
  pub talks : s.streams.talks ≡ []
  pub listens : s.streams.listens ≡ []

-- a bridge has no application that asks for anything
abbrev pub IsIdleBridge : NodeState → Type 0
IsIdleBridge s = s.kind ≡ Bridge → AsksNothing s

-- What a node keeps: each key of MVRP is a VID, what MSRP keeps fits in its fields, its ports have
-- the node's BridgeID, so it is with the PDUs that wait, and a bridge asks for nothing.
pub record IsProperNode (s : NodeState) : Type 0 where
  pub kept : IsKeptNode s
  pub vids : AreOfVids s.vlans
  pub ranges : AreOfRange s.streams
  pub named : AllByRecursion (λ (p : PortState). p.config.bridge ≡ s.bridge) s.streams.ports
  pub readable_in : AllByRecursion AreProperWires s.inboxes
  pub readable_out : AllByRecursion AreProperWires s.outboxes
  pub idle : IsIdleBridge s

-- what the application asks for is of a VID, or of a Talker that fits in its fields
abbrev pub AsksInRange : AppRequest → Type 0
AsksInRange (Declare vid) = IsVid vid
AsksInRange (Withdraw vid) = IsVid vid
AsksInRange (Talk talker) = IsTalker talker
AsksInRange (Hush stream) = Unit {0}
AsksInRange (Listen stream) = Unit {0}
AsksInRange (Unlisten stream) = Unit {0}

-- so is what happens at a node, where it is a request
abbrev pub IsInRange : NodeEvent → Type 0
IsInRange (Request request) = AsksInRange request
IsInRange (Port port step) = Unit {0}
IsInRange Clock = Unit {0}

-- how each link port of a node is set up: its BridgeID and its latency, the caps of its ledger, and
-- the Domain values that it declares
abbrev pub port_setups : NodeState → List Setup
port_setups s = setups_of s.streams
