-- One stream at a node: what is registered of it at each port, and what each link port declares of
-- its Talker and its Listeners, and wants for it (IEEE Std 802.1Q-2018, 35.2.4). Ports are numbered
-- from 0, the application of a station; the link port at place n of a list, counted from 0, is port
-- n + 1.
use Rattle.std.specs.Prelude.{ℕ, suc, Bool, true, false, not, ◌&&◌, ◌==◌, if◌then◌else◌, List, ◌∷◌, ◌++◌, map, take, drop, find, position, Option, Some, None, is_some, is_none, option_map, option_and_then}
use Rattle.std.specs.{List.filter_map, List.list_any, Option.unwrap_or}
use Rattle.srp_base.specs.declared.{bandwidth.Class.Class, numbers.StreamId.StreamId, streams.Talker.Talker, streams.TalkerReg.TalkerReg, streams.ListenerKind.ListenerKind}
use Rattle.srp_base.specs.declared.streams.TalkerReg.TheVariants.{Absent, Advertise, Failed}
use Rattle.srp_base.specs.declared.streams.ListenerKind.TheVariants.{AskingFailed, Ready, ReadyFailed}
use Rattle.stream_importance.specs.declared.{entry.Want.Want, entry.Fit.Fit, entry.Fit.TheVariants.Fits}
use Rattle.stream_importance.specs.Bandwidth.{slope_of_frames}
use Rattle.port_ledger.specs.Book.{Book, since_of, fit_for}
use Rattle.msrp_talker.specs.TalkerOut.{check_of, class_of_priority, talker_in, talker_out}
use Rattle.msrp_listener.specs.declared.port_listener.PortListener.{PortListener}
use Rattle.msrp_listener.specs.Merging.{listener_out}
use Rattle.msrp_codec.specs.declared.{pdu.MsrpKey.MsrpKey, pdu.MsrpContent.MsrpContent}
use Rattle.msrp_codec.specs.declared.pdu.MsrpKey.TheVariants as keys
use Rattle.msrp_codec.specs.declared.pdu.MsrpContent.TheVariants as contents
use Rattle.msrp.specs.{PortState.PortState, Part.registered_talker, Part.registered_listener, Part.talker_content, Domain.domain_stated, Domain.is_edge}

-- what is registered of one stream at a node's ports, and where it is booked
pub record Registrations : Type 0 where
  -- its Talker: at the application, and then at each link port
  pub talkers : List TalkerReg
  -- whether the application listens
  pub listens : Bool
  -- its Listeners at each link port, each with whether the port has the stream booked
  pub listeners : List (Option PortListener)

-- ---- what is registered

-- a Talker of the application is advertised
abbrev pub advertise_of : Option Talker → TalkerReg
advertise_of None = Absent
advertise_of (Some talker) = Advertise talker

-- the application's Talker of a stream
abbrev pub talk_of : StreamId → List Talker → Option Talker
talk_of stream talks = find (λ (t : Talker). t.stream.0 == stream.0) talks

-- whether the application listens to a stream
abbrev pub is_listened : StreamId → List StreamId → Bool
is_listened stream listens = list_any (λ (x : StreamId). x.0 == stream.0) listens

-- the Listeners of a stream at a link port
abbrev pub listener_row : StreamId → PortState → Option PortListener
listener_row stream port =
    option_map
    (λ kind. record { kind = kind; booked = is_some (since_of port.ledger.entries stream) })
    (registered_listener stream port.part)

-- what is registered of a stream's Talker at each port, the application first
abbrev pub talkers_of : List Talker → List PortState → StreamId → List TalkerReg
talkers_of talks ports stream =
    advertise_of (talk_of stream talks) ∷ map (λ (p : PortState). registered_talker stream p.part) ports

-- what is registered of a stream, from the application's Talkers, the streams that it listens to,
-- and the link ports
abbrev pub registrations_of : List Talker → List StreamId → List PortState → StreamId → Registrations
registrations_of talks listens ports stream =
    record {
      talkers = talkers_of talks ports stream;
      listens = is_listened stream listens;
      listeners = map (listener_row stream) ports;
    }

-- ---- the Talker's port

-- whether a Talker is registered
abbrev pub is_present : TalkerReg → Bool
is_present Absent = false
is_present (Advertise talker) = true
is_present (Failed talker failure) = true

-- the Talker's port: the lowest-numbered port where a Talker is registered
abbrev pub talker_port : List TalkerReg → Option ℕ
talker_port talkers = position is_present talkers

-- what is registered there
abbrev pub first_talker : List TalkerReg → TalkerReg
first_talker talkers = unwrap_or (find is_present talkers) Absent

-- whether there is a port, and it has this number
abbrev pub is_number : ℕ → Option ℕ → Bool
is_number n None = false
is_number n (Some m) = m == n

-- whether a port is the Talker's port
abbrev pub is_talker_port : ℕ → List TalkerReg → Bool
is_talker_port port talkers = is_number port (talker_port talkers)

-- ---- what a link port wants

-- what a Talker asks of a port in a class: its rank, and the slope of its frames
abbrev pub want_in_class : Talker → Class → Want
want_in_class talker class =
    record {
      stream = talker.stream;
      class = class;
      rank = talker.rank;
      slope = slope_of_frames class talker.max_frame talker.frames;
    }

-- what a Talker asks of a port; nothing where its priority has no SR class
abbrev pub want_of_talker : Talker → Option Want
want_of_talker talker = option_map (want_in_class talker) (class_of_priority talker.priority)

-- whether a link port is at the boundary of the SRP domain of a stream's class, that of the Talker
-- at the Talker's port
abbrev pub edge_at : PortState → List TalkerReg → Bool
edge_at port talkers = is_edge port.domain port.part (first_talker talkers)

-- what is wanted for a registered Talker: only one that is advertised is served, where the port is
-- no boundary for it and where it isn't refused by each port anyway
abbrev pub want_of_reg : Bool → TalkerReg → Option Want
want_of_reg edge Absent = None
want_of_reg edge (Failed talker failure) = None
want_of_reg edge (Advertise talker) =
    if not edge && is_none (check_of talker) then want_of_talker talker else None

-- whether by what is declared of Listeners some of them can have the stream: Ready or Ready Failed
abbrev pub is_ready_kind : ListenerKind → Bool
is_ready_kind AskingFailed = false
is_ready_kind Ready = true
is_ready_kind ReadyFailed = true

-- whether Listeners are registered at a port, of which some can have the stream
abbrev pub is_ready : Option ListenerKind → Bool
is_ready None = false
is_ready (Some kind) = is_ready_kind kind

-- what a link port, at a place, wants for a stream: the advertised Talker's bandwidth, where the
-- Talker's port is another one, Listener Ready or Ready Failed is registered here, and the port is
-- no boundary for the Talker
abbrev pub wanted_at : ℕ → PortState → List TalkerReg → StreamId → Option Want
wanted_at at port talkers stream =
    if is_talker_port (suc at) talkers then None
    else if is_ready (registered_listener stream port.part)
    then want_of_reg (edge_at port talkers) (first_talker talkers)
    else None

-- ---- what a link port declares

-- whether what the Talker asks for fits at the link port at a place, by its ledger; None where
-- there is no Talker, where its port is this one, and where its priority has no SR class
abbrev pub fit_at : ℕ → ℕ → Book → List TalkerReg → Option Fit
fit_at now at book talkers =
    if is_talker_port (suc at) talkers then None
    else option_map (fit_for now book)
    (option_and_then want_of_talker (talker_in (first_talker talkers)))

-- what a link port, at a place, declares of the Talker: nothing at the Talker's own port, and
-- elsewhere what `talker_out` makes of what is registered there (35.2.4.3)
abbrev pub talker_at : ℕ → PortState → List TalkerReg → TalkerReg
talker_at at port talkers =
    if is_talker_port (suc at) talkers then Absent
    else talker_out (first_talker talkers) port.config (edge_at port talkers)
    (unwrap_or (fit_at port.ledger.moment at port.ledger talkers) Fits)

-- whether a Talker is advertised
abbrev pub is_advertised : TalkerReg → Bool
is_advertised Absent = false
is_advertised (Advertise talker) = true
is_advertised (Failed talker failure) = false

-- a listening application counts as Ready, and has the stream where the Talker at the Talker's port
-- is advertised
abbrev pub own_listener : Registrations → Option PortListener
own_listener r =
    if r.listens then Some (record { kind = Ready; booked = is_advertised (first_talker r.talkers) })
    else None

-- the Listeners at all ports but the link port at a place
abbrev pub other_listeners : ℕ → Registrations → List PortListener
other_listeners at r =
    filter_map (λ row. row) (own_listener r ∷ (take at r.listeners ++ drop (suc at) r.listeners))

-- what the link port at a place declares of Listeners: at the Talker's port those at all other
-- ports, merged (35.2.4.4), and elsewhere nothing
abbrev pub listener_at : ℕ → Registrations → Option ListenerKind
listener_at at r =
    if is_talker_port (suc at) r.talkers then listener_out (other_listeners at r) else None

-- what a link port, at a place, declares of a key, by what is registered of each stream; a Domain
-- is declared for good, whatever is registered anywhere
abbrev pub stated_at : ℕ → PortState → (StreamId → Registrations) → MsrpKey → Option MsrpContent
stated_at at port regs (keys.Talker stream) =
    talker_content (talker_at at port (regs stream).talkers)
stated_at at port regs (keys.Listener stream) =
    option_map contents.Listener (listener_at at (regs stream))
stated_at at port regs (keys.Domain class) = domain_stated port.domain class

-- ---- what the application hears

-- what a Talker lets the application have
abbrev pub heard_from : TalkerReg → Option ListenerKind
heard_from Absent = None
heard_from (Advertise talker) = Some Ready
heard_from (Failed talker failure) = Some AskingFailed

-- what a listening application hears of the stream: Ready where the Talker is advertised,
-- AskingFailed where it failed; nothing where it doesn't listen, or where no link port is the
-- Talker's port
abbrev pub heard_by : Registrations → Option ListenerKind
heard_by r =
    if r.listens && not (is_talker_port 0 r.talkers) then heard_from (first_talker r.talkers) else None
