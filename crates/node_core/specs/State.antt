-- A node as contracts see it, and what its readers say of it.
use Rattle.std.specs.Prelude.{ℕ, ◌+◌, ◌==◌, ◌%◌, Bool, false, not, ◌&&◌, ◌||◌, if◌then◌else◌, List, [], ◌∷◌, ◌++◌, length, map, Option, Some, None, option_and_then, slice_get}
use Rattle.std.specs.{Option.option_map_or, List.list_all, List.list_any, List.filter_map, Ordering.nat_cmp}
use Rattle.srp_base.specs.declared.{numbers.Cs.Cs, numbers.BridgeId.BridgeId, numbers.StreamId.StreamId, bandwidth.Class.Class, ports.PortSetup.PortSetup, mrp.App.App, mrp.App.TheVariants.Mvrp, mrp.App.TheVariants.Msrp}
use Rattle.tree_topology.specs.declared.graph.NodeKind.{NodeKind}
use Rattle.registrar.specs.declared.{Registrar.Registrar, Registrar.TheVariants.Empty}
use Rattle.registrar.specs.Table.{is_registered_in}
use Rattle.mrp_participant.specs.declared.row.Row.{Row}
use Rattle.mrp_participant.specs.{Lookup.find, Row.registrar_of, State.State, State.registered_at}
use Rattle.stream_importance.specs.declared.{entry.Entry.Entry, entry.Fit.Fit}
use Rattle.port_ledger.specs.{Decision.is_booked, Decision.booked_of, Book.entry_of, Book.booked_slope}
use Rattle.msrp_codec.specs.declared.{pdu.MsrpKey.MsrpKey, pdu.MsrpContent.MsrpContent}
use Rattle.mvrp.specs.{Part.Part, Side.Vlans, Side.new_vlans}
use Rattle.flat_side.specs.Side.{are_still, is_busy as vlans_are_busy}
use Rattle.msrp.specs.declared.domain.DomainSet.{DomainSet}
use Rattle.msrp.specs.{PortState.PortState, Part.key_cmp, Stream.fit_at, Stream.talkers_of, Side.Streams, Side.are_still as streams_are_still, Side.is_busy as streams_are_busy, Side.new_streams, Side.shows_at}
use Rattle.node_core.specs.declared.{types.Wire.Wire, types.NodeKey.NodeKey, types.NodeKey.TheVariants.Vlan, types.NodeKey.TheVariants.Srp, types.PortStep.PortStep}
use Rattle.node_core.specs.declared.types.PortStep.TheVariants.{Work, Due, Settle, Send}

-- what a node is, its clock, what each application keeps, and the PDUs that wait at each link port:
-- those that came in and those that are to go out, in order
pub record NodeState : Type 0 where
  pub kind : NodeKind
  pub bridge : BridgeId
  pub clock : Cs
  pub vlans : Vlans
  pub streams : Streams
  pub inboxes : List (List Wire)
  pub outboxes : List (List Wire)

-- the number of link ports
abbrev pub ports_of : NodeState → ℕ
ports_of s = length s.vlans.parts

-- a new node with these ports: nothing but its Domain values is declared, nothing is registered or
-- booked, and no PDU waits
abbrev pub new_node : NodeKind → BridgeId → Cs → Bool → DomainSet → List PortSetup → NodeState
new_node kind bridge leave_time periodic domain ports =
    record {
      kind = kind;
      bridge = bridge;
      clock = record { 0 = 0 };
      vlans = new_vlans leave_time periodic ports;
      streams = new_streams bridge leave_time periodic domain ports;
      inboxes = map (λ _. []) ports;
      outboxes = map (λ _. []) ports;
    }

-- the PDUs in a list of boxes at a place
abbrev pub box_at : ℕ → List (List Wire) → List Wire
box_at at boxes = option_map_or (λ wires. wires) (slice_get boxes at) []

-- what of MVRP's participant at a place, or what there is for none
abbrev pub of_part : {X : Type 0} → (Part → X) → X → ℕ → Vlans → X
of_part f none at vlans = option_map_or f (slice_get vlans.parts at) none

-- what of MSRP's port at a place, or what there is for none
abbrev pub of_port : {X : Type 0} → (PortState → X) → X → ℕ → Streams → X
of_port f none at streams = option_map_or f (slice_get streams.ports at) none

-- ---- what the readers say

-- whether no PDU waits in any of these boxes
abbrev pub are_empty : List (List Wire) → Bool
are_empty boxes = list_all (λ wires. length wires == 0) boxes

-- whether nothing is pending at a node: no PDU waits, and no application has anything to do
abbrev pub is_still_node : NodeState → Bool
is_still_node s =
    are_empty s.inboxes && are_empty s.outboxes && are_still s.vlans
    && streams_are_still s.streams

-- whether the participant of an application at a place is sound
abbrev pub is_sound_at : App → ℕ → NodeState → Bool
is_sound_at Mvrp at s = of_part (λ part. part.sound) false at s.vlans
is_sound_at Msrp at s = of_port (λ port. port.part.sound) false at s.streams

-- whether every participant of both applications is sound
abbrev pub are_all_sound : NodeState → Bool
are_all_sound s =
    list_all (λ part. part.sound) s.vlans.parts
    && list_all (λ (port : PortState). port.part.sound) s.streams.ports

-- the state of the registrar of an attribute at a place
abbrev pub registrar_at : NodeKey → ℕ → NodeState → Registrar
registrar_at (Vlan vid) at s =
    of_part (λ part. registrar_of (find nat_cmp vid part.rows)) Empty at s.vlans
registrar_at (Srp key) at s =
    of_port (λ port. registrar_of (find key_cmp key port.part.rows)) Empty at s.streams

-- what is registered of an attribute of MSRP at a place
abbrev pub content_at : MsrpKey → ℕ → NodeState → Option MsrpContent
content_at key at s = of_port (λ port. registered_at key_cmp key port.part) None at s.streams

-- the attribute of a row, where it is registered
abbrev pub registered_key : {K C : Type 0} → (K → NodeKey) → Row K C → Option NodeKey
registered_key name row = if is_registered_in row.registrar then Some (name row.key) else None

-- the attributes that a participant has registered, ascending
abbrev pub registered_in : {K C : Type 0} → (K → NodeKey) → State K C → List NodeKey
registered_in name part = filter_map (registered_key name) part.rows

-- the attributes that are registered at a place: VIDs, and then those of MSRP, each ascending
abbrev pub registered_keys : ℕ → NodeState → List NodeKey
registered_keys at s =
    of_part (λ part. registered_in Vlan part) [] at s.vlans
    ++ of_port (λ port. registered_in Srp port.part) [] at s.streams

-- an entry of a ledger where it is booked
abbrev pub if_booked : Entry → Option Entry
if_booked x = if is_booked x then Some x else None

-- the booked entry of a stream in the ledger at a place
abbrev pub booked_at : StreamId → ℕ → NodeState → Option Entry
booked_at stream at s =
    of_port (λ port. option_and_then if_booked (entry_of port.ledger.entries stream)) None at
    s.streams

-- the booked entries there, ascending by StreamID
abbrev pub bookings_at : ℕ → NodeState → List Entry
bookings_at at s = of_port (λ port. booked_of port.ledger.entries) [] at s.streams

-- the slopes of the booked streams of a class there, together, in bit/s
abbrev pub slope_at : Class → ℕ → NodeState → ℕ
slope_at class at s = of_port (λ port. booked_slope port.ledger.entries class) 0 at s.streams

-- whether what a stream's Talker asks for fits at a place, by the ledger there and at the moment of
-- the clock
abbrev pub fit_of : ℕ → StreamId → NodeState → Option Fit
fit_of at stream s =
    of_port
    (λ port. fit_at s.clock.0 at port.ledger (talkers_of s.streams.talks s.streams.ports stream))
    None at s.streams

-- ---- what a port has to do

-- whether a node is busy at a moment: a PDU came in at some port, a timer is due there, or an
-- attribute awaits
abbrev pub is_busy_at : Cs → NodeState → Bool
is_busy_at now s =
    not (are_empty s.inboxes) || vlans_are_busy now s.vlans
    || streams_are_busy now s.streams

-- whether a node is busy at the moment of its own clock
abbrev pub is_busy_node : NodeState → Bool
is_busy_node s = is_busy_at s.clock s

-- whether a node is at rest up to a moment: it isn't busy then, and at no port a want that isn't
-- booked may fit otherwise once the clock goes on
abbrev pub is_at_rest : Cs → NodeState → Bool
is_at_rest until s = not (is_busy_at until s) && not (list_any (shows_at (s.clock.0 + 1)) s.streams.ports)

-- a step for each of these PDUs
abbrev pub works : List Wire → List PortStep
works wires = map (λ _. Work) wires

-- JoinTime, the time between two opportunities to send, in cs (IEEE Std 802.1Q-2018, 10.7.11)
abbrev pub join_time : ℕ
join_time = 20

-- whether each application sends at a moment: every JoinTime
abbrev pub is_sending_time : Cs → Bool
is_sending_time now = now.0 % join_time == 0

-- The steps of a link port in one tick: where the node is busy, a Work for each PDU that came in at
-- the port, Due and Settle; and at the moments of sending a Send of each application.
abbrev pub job_list : ℕ → NodeState → List PortStep
job_list at s =
    (if is_busy_node s then works (box_at at s.inboxes) ++ (Due ∷ Settle ∷ []) else [])
    ++ (if is_sending_time s.clock then Send Mvrp ∷ Send Msrp ∷ [] else [])
