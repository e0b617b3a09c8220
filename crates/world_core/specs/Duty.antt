-- What is on each link, as messages: the octets in flight read as what they say, so that the duty
-- of a link's two ends (mrp_participant) speaks of the network. It is said of any application, by
-- the order of its keys, its participant at a place of a node, and what a PDU says in it.
use Rattle.std.specs.Prelude.{◌≡◌, ℕ, true, List, ◌++◌, filter_map, Option, Some, None, option_map, Result, Ok, Err, slice_get}
use Rattle.std.specs.{declared.cmp.Ordering.Ordering, Option.option_and_then, Ordering.nat_cmp}
use Rattle.srp_base.specs.declared.{numbers.EgressPort.EgressPort, mrp.App.App, mrp.App.TheVariants.Mvrp, mrp.App.TheVariants.Msrp}
use Rattle.tree_topology.specs.{Topology.HasPort, Ports.peer_of}
use Rattle.mvrp_codec.specs.declared.pdu.MvrpPdu.{MvrpPdu}
use Rattle.mvrp_codec.specs.Meaning.{mvrp_reading}
use Rattle.msrp_codec.specs.declared.{pdu.MsrpKey.MsrpKey, pdu.MsrpContent.MsrpContent, pdu.MsrpPdu.MsrpPdu}
use Rattle.msrp_codec.specs.Meaning.{msrp_reading}
use Rattle.mrp_participant.specs.{State.State, State.Messages, MarkedLink.Mark, MarkedLink.MarkedLink, MarkedLink.AreMarkedDutiesMet}
use Rattle.mvrp.specs.Part.{Part, messages}
use Rattle.attribute_propagation.specs.Ports.{place_of}
use Rattle.msrp.specs.Part.{Part as StreamPart, key_cmp}
use Rattle.node_core.specs.declared.types.Wire.{Wire}
use Rattle.node_core.specs.State.{NodeState}
use Rattle.world_core.specs.declared.marks.EndMark.{EndMark}
use Rattle.world_core.specs.{Marks.BothMarks, Marks.mark_at, Marks.count_of, World.WorldState, World.node_at, World.inbox, World.outbox}

-- the PDUs in flight from a port: those that came in at its peer, and then those that are to go out
abbrev pub in_flight : EgressPort → WorldState → List Wire
in_flight p w = inbox (peer_of w.tree.links p) w ++ outbox p w

-- ---- of any application

-- the participant at a port, by that at a place of a node
abbrev pub part_at : {S : Type 0} → (ℕ → NodeState → Option S) → EgressPort → WorldState → Option S
part_at part p w = option_and_then (λ s. part (place_of p.port) s) (node_at p.node w)

-- the marks of an end in an application, but for the number of PDUs
abbrev pub flags_of : EndMark → Mark
flags_of e = record { clear = e.clear; assured = e.assured }

-- the link between two participants with these PDUs in flight, as messages, and the marks of both
-- ends
abbrev pub marked_link : {K C : Type 0} → (Wire → Option (Messages K C)) → State K C → State K C → (sent coming : List Wire)
    → BothMarks → MarkedLink K C
marked_link said near far sent coming marks =
    record {
      link = record { near = near; far = far; sent = filter_map said sent; coming = filter_map said coming };
      near = flags_of marks.0;
      far = flags_of marks.1;
    }

-- what a link keeps in an application: both ends meet their duty, where a port is sound also by its
-- mark; the marks count the PDUs in flight from each end; and where a way is clear, nothing is in
-- flight from its end, malformed PDUs included, and its neighbour holds nothing of any key
pub record IsLinkMet {K C : Type 0} (cmp : K → K → Ordering) (said : Wire → Option (Messages K C)) (app : App)
    (near far : State K C) (sent coming : List Wire) (marks : BothMarks) : Type 0 where
  pub duties : AreMarkedDutiesMet cmp (marked_link said near far sent coming marks)
  pub near_flying : marks.0.flying ≡ count_of app sent
  pub far_flying : marks.1.flying ≡ count_of app coming
  pub near_clear : marks.0.clear ≡ true → marks.0.flying ≡ 0
  pub far_clear : marks.1.clear ≡ true → marks.1.flying ≡ 0

-- every link keeps it in an application
abbrev pub AreDutiesMetIn : {K C : Type 0} → (K → K → Ordering) → (ℕ → NodeState → Option (State K C))
    → (Wire → Option (Messages K C)) → App → WorldState → Type 0
AreDutiesMetIn {K = K} {C = C} cmp part said app w =
    (p : EgressPort) → HasPort w.tree p → (near far : State K C)
    → part_at part p w ≡ Some near → part_at part (peer_of w.tree.links p) w ≡ Some far
    → IsLinkMet cmp said app near far (in_flight p w) (in_flight (peer_of w.tree.links p) w)
    (mark_at app p w.marks, mark_at app (peer_of w.tree.links p) w.marks)

-- ---- of MVRP

-- what the octets of a PDU of MVRP say to a participant; malformed octets say nothing
abbrev pub said_of_vlans : Result MvrpPdu ℕ → Option (Messages ℕ (Unit {0}))
said_of_vlans (Ok pdu) = Some (record { leave_all = pdu.leave_all; events = messages pdu })
said_of_vlans (Err place) = None

-- what octets of an application say in MVRP; those of MSRP say nothing there
abbrev pub vlans_said : App → List ℕ → Option (Messages ℕ (Unit {0}))
vlans_said Mvrp octets = said_of_vlans (mvrp_reading octets)
vlans_said Msrp octets = None

-- what a PDU says in MVRP, if anything
abbrev pub message_of : Wire → Option (Messages ℕ (Unit {0}))
message_of wire = vlans_said wire.app wire.octets

-- what PDUs say, in order
abbrev pub messages_of : List Wire → List (Messages ℕ (Unit {0}))
messages_of wires = filter_map message_of wires

-- the participant of MVRP at a place of a node
abbrev pub vlan_place : ℕ → NodeState → Option Part
vlan_place at s = slice_get s.vlans.parts at

-- the participant of MVRP at a port of the network
abbrev pub vlan_part : EgressPort → WorldState → Option Part
vlan_part p w = part_at vlan_place p w

-- on every link both ends meet their duty in MVRP
abbrev pub AreVlanDutiesMet : WorldState → Type 0
AreVlanDutiesMet w = AreDutiesMetIn nat_cmp vlan_place message_of Mvrp w

-- ---- of MSRP

-- what the octets of a PDU of MSRP say to a participant, in the order in which they stand;
-- malformed octets say nothing
abbrev pub said_of_streams : Result MsrpPdu ℕ → Option (Messages MsrpKey MsrpContent)
said_of_streams (Ok pdu) = Some (record { leave_all = pdu.leave_all; events = pdu.events })
said_of_streams (Err place) = None

-- what octets of an application say in MSRP; those of MVRP say nothing there
abbrev pub octets_said : App → List ℕ → Option (Messages MsrpKey MsrpContent)
octets_said Mvrp octets = None
octets_said Msrp octets = said_of_streams (msrp_reading octets)

-- what a PDU says in MSRP, if anything
abbrev pub streams_said : Wire → Option (Messages MsrpKey MsrpContent)
streams_said wire = octets_said wire.app wire.octets

-- the participant of MSRP at a place of a node
abbrev pub stream_place : ℕ → NodeState → Option StreamPart
stream_place at s = option_map (λ port. port.part) (slice_get s.streams.ports at)

-- the participant of MSRP at a port of the network
abbrev pub stream_part : EgressPort → WorldState → Option StreamPart
stream_part p w = part_at stream_place p w

-- on every link both ends meet their duty in MSRP
abbrev pub AreStreamDutiesMet : WorldState → Type 0
AreStreamDutiesMet w = AreDutiesMetIn key_cmp stream_place streams_said Msrp w
