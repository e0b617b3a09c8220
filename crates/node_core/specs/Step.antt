-- One step of a node: the node afterwards, and what it answers.
use Rattle.std.specs.Prelude.{◌≡◌, ◌<◌, ◌^◌, ℕ, ◌+◌, Bool, true, false, if◌then◌else◌, List, [], ◌∷◌, ◌++◌, length, Option, Some, None, slice_set, Result, Ok, Err}
use Rattle.std.specs.Ordering.{nat_cmp}
use Rattle.srp_base.specs.declared.{numbers.Cs.Cs, mrp.App.App, mrp.App.TheVariants.Mvrp, mrp.App.TheVariants.Msrp}
use Rattle.mvrp_codec.specs.declared.pdu.MvrpPdu.{MvrpPdu}
use Rattle.mvrp_codec.specs.{Meaning.mvrp_reading, Writing.mvrp_spelling}
use Rattle.msrp_codec.specs.declared.{pdu.MsrpKey.MsrpKey, pdu.MsrpPdu.MsrpPdu}
use Rattle.msrp_codec.specs.{Meaning.msrp_reading, Writing.msrp_spelling}
use Rattle.mrp_participant.specs.{Lookup.find, Row.is_leaving_in, State.is_silent, State.due_count}
use Rattle.mvrp.specs.{Part.pdu_sent, Side.Vlans, Side.received_vlans, Side.due_vlans, Side.left_vlans, Side.leave_all_vlans, Side.periodic_vlans, Side.settled_vlans, Side.sent_vlans, Side.requested_vlans}
use Rattle.attribute_propagation.specs.Ports.{IsLinkPort, place_of, count_of}
use Rattle.flat_side.specs.Side.{awaiting_at}
use Rattle.msrp.specs.declared.asking.SrpRequest.TheVariants as asks
use Rattle.msrp.specs.{Part.key_cmp, Part.pdu_sent as srp_pdu_sent, Side.Streams, Side.awaiting_at as keys_awaiting_at, Side.received_streams, Side.due_streams, Side.left_streams, Side.leave_all_streams, Side.periodic_streams, Side.settled_streams, Side.sent_streams, Side.requested_streams, Side.clocked_streams}
use Rattle.node_core.specs.declared.{types.Wire.Wire, types.AppRequest.AppRequest, types.NodeKey.NodeKey, types.NodeKey.TheVariants.Vlan, types.NodeKey.TheVariants.Srp, types.PortStep.PortStep, types.NodeEvent.NodeEvent, types.StepReply.StepReply}
use Rattle.node_core.specs.declared.types.AppRequest.TheVariants.{Declare, Withdraw, Talk, Hush, Listen, Unlisten}
use Rattle.node_core.specs.declared.types.PortStep.TheVariants.{Work, LeaveNow, LeaveAllNow, PeriodicNow, Due, Settle, Send}
use Rattle.node_core.specs.declared.types.NodeEvent.TheVariants.{Request, Port, Clock}
use Rattle.node_core.specs.declared.types.StepReply.TheVariants.{Nothing, Discarded, Received, Fired, Settled, Silent, Sent, Taken}
use Rattle.tree_topology.specs.declared.graph.NodeKind.TheVariants.{Station}
use Rattle.node_core.specs.State.{NodeState, ports_of, box_at, of_part, of_port}

-- a node after a step, and its answer
abbrev pub Stepped : Type 0
Stepped = NodeState × StepReply

-- the node with what a step made of MVRP at it, and what that answers
abbrev pub on_vlans : NodeState → Vlans × StepReply → Stepped
on_vlans s made = (record s { vlans = made.0 }, made.1)

-- the node with what a step made of MSRP at it, and what that answers
abbrev pub on_streams : NodeState → Streams × StepReply → Stepped
on_streams s made = (record s { streams = made.0 }, made.1)

-- ---- Work: the front PDU of an inbox, by its reading

-- what a PDU of MVRP says acts; or it is malformed, and nothing does
abbrev pub worked_mvrp : Cs → ℕ → Result MvrpPdu ℕ → Vlans → Vlans × StepReply
worked_mvrp now at (Ok pdu) vlans =
    (received_vlans now at pdu vlans, Received (count_of (length pdu.events)))
worked_mvrp now at (Err place) vlans = (vlans, Discarded place)

-- so does what a PDU of MSRP says
abbrev pub worked_msrp : Cs → ℕ → Result MsrpPdu ℕ → Streams → Streams × StepReply
worked_msrp now at (Ok pdu) streams =
    (received_streams now at pdu streams, Received (count_of (length pdu.events)))
worked_msrp now at (Err place) streams = (streams, Discarded place)

-- the octets of a PDU are taken by its application
abbrev pub worked_app : App → ℕ → List ℕ → NodeState → Stepped
worked_app Mvrp at octets s = on_vlans s (worked_mvrp s.clock at (mvrp_reading octets) s.vlans)
worked_app Msrp at octets s = on_streams s (worked_msrp s.clock at (msrp_reading octets) s.streams)

-- the front of these PDUs is taken, and the others stay
abbrev pub after_work : ℕ → List Wire → NodeState → Stepped
after_work at [] s = (s, Nothing)
after_work at (wire ∷ wires) s =
    worked_app wire.app at wire.octets (record s { inboxes = slice_set s.inboxes at wires })

-- ---- timers, and what awaits

-- one timer fired, or none
abbrev pub fired_one : Bool → StepReply
fired_one fired = Fired (if fired then 1 else 0)

-- whether the registrar of a VID at a place is LV
abbrev pub is_leaving_at : ℕ → ℕ → Vlans → Bool
is_leaving_at at vid vlans =
    of_part (λ part. is_leaving_in (find nat_cmp vid part.rows)) false at vlans

-- whether the registrar of a key of MSRP at a place is LV
abbrev pub is_key_leaving_at : ℕ → MsrpKey → Streams → Bool
is_key_leaving_at at key streams =
    of_port (λ port. is_leaving_in (find key_cmp key port.part.rows)) false at streams

-- the leave timer of a VID ends; it counts as fired where the registrar was LV
abbrev pub left_vid_now : ℕ → ℕ → Vlans → Vlans × StepReply
left_vid_now vid at vlans = (left_vlans at vid vlans, fired_one (is_leaving_at at vid vlans))

-- the leave timer of a key of MSRP ends; it counts as fired where the registrar was LV
abbrev pub left_key_now : MsrpKey → ℕ → Streams → Streams × StepReply
left_key_now key at streams =
    (left_streams at key streams, fired_one (is_key_leaving_at at key streams))

-- the leave timer of an attribute of either application ends
abbrev pub left_now : NodeKey → ℕ → NodeState → Stepped
left_now (Vlan vid) at s = on_vlans s (left_vid_now vid at s.vlans)
left_now (Srp key) at s = on_streams s (left_key_now key at s.streams)

-- the LeaveAll timer of an application fires
abbrev pub leave_all_now : App → ℕ → NodeState → Stepped
leave_all_now Mvrp at s = on_vlans s (leave_all_vlans s.clock at s.vlans, Fired 1)
leave_all_now Msrp at s = on_streams s (leave_all_streams s.clock at s.streams, Fired 1)

-- the periodic timer of an application fires
abbrev pub periodic_now : App → ℕ → NodeState → Stepped
periodic_now Mvrp at s = on_vlans s (periodic_vlans at s.vlans, Fired 1)
periodic_now Msrp at s = on_streams s (periodic_streams at s.streams, Fired 1)

-- how many timers of both applications are due at a place
abbrev pub all_due : Cs → ℕ → Vlans → Streams → ℕ
all_due now at vlans streams =
    of_part (λ part. due_count now part) 0 at vlans
    + of_port (λ port. due_count now port.part) 0 at streams

-- all timers of both applications that are due at a place fire
abbrev pub fired_due : ℕ → NodeState → Stepped
fired_due at s = (
  record s {
    vlans = due_vlans s.clock at s.vlans;
    streams = due_streams s.clock at s.streams;
  },
  Fired (count_of (all_due s.clock at s.vlans s.streams)),
)

-- how many attributes of both applications await at a place
abbrev pub all_awaiting : ℕ → Vlans → Streams → ℕ
all_awaiting at vlans streams =
    length (awaiting_at at vlans) + length (keys_awaiting_at at streams)

-- what awaits at a place is settled, of both applications
abbrev pub after_settling : ℕ → NodeState → Stepped
after_settling at s = (
  record s { vlans = settled_vlans at s.vlans; streams = settled_streams at s.streams },
  Settled (count_of (all_awaiting at s.vlans s.streams)),
)

-- the attribute whose leave timer a step ends
abbrev pub key_of_step : PortStep → Option NodeKey
key_of_step (LeaveNow key) = Some key
key_of_step _ = None

-- ---- Send: what an application has to say goes to the end of an outbox

-- the octets that MVRP's participant at a place has to say, if any, in their one spelling
abbrev pub said_mvrp : Cs → ℕ → Vlans → Option (List ℕ)
said_mvrp now at vlans =
    of_part (λ part. if is_silent part then None else Some (mvrp_spelling (pdu_sent now part)))
    None at vlans

-- the octets that MSRP's participant at a place has to say, if any, in their one spelling
abbrev pub said_msrp : Cs → ℕ → Streams → Option (List ℕ)
said_msrp now at streams =
    of_port
    (λ port.
    if is_silent port.part then None else Some (msrp_spelling (srp_pdu_sent now port.part)))
    None at streams

-- what an application at a place has to say
abbrev pub octets_to_say : App → ℕ → NodeState → Option (List ℕ)
octets_to_say Mvrp at s = said_mvrp s.clock at s.vlans
octets_to_say Msrp at s = said_msrp s.clock at s.streams

-- the node whose application has said something
abbrev pub after_app : App → ℕ → NodeState → NodeState
after_app Mvrp at s = record s { vlans = sent_vlans s.clock at s.vlans }
after_app Msrp at s = record s { streams = sent_streams s.clock at s.streams }

-- an outbox with one PDU more: these octets of an application, at its end
abbrev pub with_octets : App → List ℕ → List Wire → List Wire
with_octets app octets outbox = outbox ++ (record { app = app; octets = octets } ∷ [])

-- the node with a PDU more in an outbox
abbrev pub with_said : App → ℕ → List ℕ → NodeState → NodeState
with_said app at octets s =
    record s { outboxes = slice_set s.outboxes at (with_octets app octets (box_at at s.outboxes)) }

-- an application says these octets, which go to the end of the outbox, or it has none to say and is
-- silent
abbrev pub sent_octets : App → ℕ → Option (List ℕ) → NodeState → Stepped
sent_octets app at None s = (s, Silent)
sent_octets app at (Some octets) s =
    (with_said app at octets (after_app app at s), Sent (count_of (length octets)))

-- an application says what it has to say at a place
abbrev pub after_send : App → ℕ → NodeState → Stepped
after_send app at s = sent_octets app at (octets_to_say app at s) s

-- ---- all steps

-- a step of the link port at a place
abbrev pub port_step : PortStep → ℕ → NodeState → Stepped
port_step Work at s = after_work at (box_at at s.inboxes) s
port_step (LeaveNow key) at s = left_now key at s
port_step (LeaveAllNow app) at s = leave_all_now app at s
port_step (PeriodicNow app) at s = periodic_now app at s
port_step Due at s = fired_due at s
port_step Settle at s = after_settling at s
port_step (Send app) at s = after_send app at s

-- what the application of a station asks for
abbrev pub after_asking : AppRequest → NodeState → Stepped
after_asking (Declare vid) s = on_vlans s (requested_vlans vid true s.vlans, Taken)
after_asking (Withdraw vid) s = on_vlans s (requested_vlans vid false s.vlans, Taken)
after_asking (Talk talker) s = on_streams s (requested_streams (asks.Talk talker) s.streams, Taken)
after_asking (Hush stream) s = on_streams s (requested_streams (asks.Hush stream) s.streams, Taken)
after_asking (Listen stream) s = on_streams s (requested_streams (asks.Listen stream) s.streams, Taken)
after_asking (Unlisten stream) s =
    on_streams s (requested_streams (asks.Unlisten stream) s.streams, Taken)

-- the clock goes on by 1 cs, and with it that of MSRP's ledgers
abbrev pub clocked_node : NodeState → NodeState
clocked_node s =
    record s {
      clock = record { 0 = s.clock.0 + 1 };
      streams = clocked_streams (s.clock.0 + 1) s.streams;
    }

-- one step of a node: what happens to it gives the node afterwards and its answer
abbrev pub node_step : NodeEvent → NodeState → Stepped
node_step (Request request) s = after_asking request s
node_step (Port port step) s = port_step step (place_of port) s
node_step Clock s = (clocked_node s, Taken)

-- ---- when a step may be made

-- a port is a link port of the node, a request is made at a station, and the clock goes on from
-- below 2^61
abbrev pub CanStep : NodeEvent → NodeState → Type 0
CanStep (Request request) s = s.kind ≡ Station
CanStep (Port port step) s = IsLinkPort port (ports_of s)
CanStep Clock s = s.clock.0 < 2 ^ 61
