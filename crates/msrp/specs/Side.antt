-- MSRP at a node (IEEE Std 802.1Q-2018, clause 35): its state, and the state after each call.
use Rattle.std.specs.Prelude.{◌≡◌, ◌⊎◌, ◌≤◌, ℕ, ◌==◌, Bool, true, false, not, ◌&&◌, ◌||◌, nat_lt, if◌then◌else◌, List, [], ◌∷◌, length, map, filter, Option, Some, None, is_some, slice_get, slice_set, Contains, Result, Ok, Err, IfSome}
use Rattle.std.specs.List.{AllByRecursion, list_all, list_any}
use Rattle.srp_base.specs.declared.{numbers.Cs.Cs, numbers.BridgeId.BridgeId, numbers.StreamId.StreamId, ports.PortSetup.PortSetup, streams.Talker.Talker, streams.TalkerReg.TalkerReg, streams.ListenerKind.ListenerKind, memory.NoMemory.NoMemory}
use Rattle.mrpdu_codec.specs.declared.error.DecodeErr.{DecodeErr}
use Rattle.mrpdu_codec.specs.declared.error.DecodeErr.TheVariants as errors
use Rattle.msrp_codec.specs.declared.{pdu.MsrpPdu.MsrpPdu, pdu.MsrpKey.MsrpKey, pdu.MsrpKey.TheVariants.Talker as TalkerKey, pdu.MsrpKey.TheVariants.Listener as ListenerKey}
use Rattle.msrp_codec.specs.{Meaning.msrp_reading, Writing.msrp_spelling, Writing.as_written}
use Rattle.mrp_participant.specs.{Lookup.find, Row.is_leaving_in, State.AreRows, State.is_silent, State.is_still, State.is_any_due, State.declared_at, State.registered_at, State.new_state, State.left_state, State.left_keys, State.due_state, State.leave_all_state, State.periodic_state}
use Rattle.attribute_propagation.specs.{Dirty.is_awaiting, Dirty.all_marked, Ports.count_of, Ports.keys_at, Ports.marked_elsewhere, Ports.marked_everywhere, Ports.new_sets, Ports.none_awaits, Ports.some_awaits}
use Rattle.stream_importance.specs.{Bandwidth.caps_of, Importance.rank_number}
use Rattle.port_ledger.specs.Book.{clocked_book, empty_book, has_new_booking, want_of, IsKept as IsKeptBook}
use Rattle.msrp.specs.declared.{domain.DomainSet.DomainSet, asking.SrpRequest.SrpRequest}
use Rattle.msrp.specs.{PortState.PortState, Part.Part, Part.key_cmp, Part.received_part, Part.told_by_receipt, Part.pdu_sent, Part.sent_part, Part.HasOwnContents, Domain.domain_part, Stream.Registrations, Stream.registrations_of, Stream.talkers_of, Stream.talk_of, Stream.is_listened, Stream.wanted_at, Stream.stated_at, Stream.heard_by, Stream.first_talker as talker_in, Settling.keys_of, Settling.known_keys, Settling.listener_keys, Settling.talker_keys, Settling.told_sets, Settling.moved_streams, Settling.next_book, Settling.settled_port}
use Rattle.msrp.specs.declared.asking.SrpRequest.TheVariants.{Talk, Hush, Listen, Unlisten}

-- the link ports in their order; the keys that await settling at each, ascending; the Talkers of
-- the application, the latest first, and the streams that it listens to; and the moment of the
-- clock in cs
pub record Streams : Type 0 where
  pub ports : List PortState
  pub awaiting : List (List MsrpKey)
  pub talks : List Talker
  pub listens : List StreamId
  pub moment : ℕ

-- what is registered of each stream, and where it is booked
abbrev pub seen_by : Streams → StreamId → Registrations
seen_by side stream = registrations_of side.talks side.listens side.ports stream

-- ---- what a side shows

-- what is registered of a stream at the Talker's port
abbrev pub talker_of : StreamId → Streams → TalkerReg
talker_of stream side = talker_in (talkers_of side.talks side.ports stream)

-- whether the application talks a stream
abbrev pub has_talk : StreamId → Streams → Bool
has_talk stream side = is_some (talk_of stream side.talks)

-- whether the application listens to a stream
abbrev pub has_listen : StreamId → Streams → Bool
has_listen stream side = is_listened stream side.listens

-- what the application hears of a stream
abbrev pub heard_of : StreamId → Streams → Option ListenerKind
heard_of stream side = heard_by (seen_by side stream)

-- ---- the side after a call

-- a new port: nothing but the node's Domain values is declared, and nothing is registered or booked
-- at it
abbrev pub new_port : BridgeId → Cs → Bool → DomainSet → PortSetup → PortState
new_port bridge leave_time periodic domain p =
    record {
      config = record { bridge = bridge; latency = p.latency };
      domain = domain;
      part = domain_part domain (new_state p.period leave_time periodic);
      ledger = empty_book (caps_of p.rate p.delta_a p.delta_b);
    }

-- a new side: new ports, no key awaits, the application asks for nothing, and the clock stands at 0
abbrev pub new_streams : BridgeId → Cs → Bool → DomainSet → List PortSetup → Streams
new_streams bridge leave_time periodic domain ports =
    record {
      ports = map (new_port bridge leave_time periodic domain) ports;
      awaiting = new_sets ports;
      talks = [];
      listens = [];
      moment = 0;
    }

-- the port at a place has another participant, which told keys: both keys of each of their streams
-- await everywhere, and where it told a Domain those of each known stream await at the port
abbrev pub with_told_port : ℕ → PortState → List MsrpKey → Streams → Streams
with_told_port at port told side =
    record side {
      ports = slice_set side.ports at port;
      awaiting = told_sets at port.domain told (known_keys side.talks side.listens side.ports) side.awaiting;
    }

-- the port at a place is another one, and nothing is told
abbrev pub with_port_at : ℕ → PortState → Streams → Streams
with_port_at at port side = record side { ports = slice_set side.ports at port }

-- the side that is made with a port; where there is none, it stays as it is
abbrev pub with_port : Option PortState → (PortState → Streams) → Streams → Streams
with_port None make side = side
with_port (Some port) make side = make port

-- the side that is made with the port at a place; where no port is there, it stays as it is
abbrev pub at_port : ℕ → (PortState → Streams) → Streams → Streams
at_port at make side = with_port (slice_get side.ports at) make side

-- a port with another participant
abbrev pub with_part : Part → PortState → PortState
with_part s port = record port { part = s }

-- the port at a place received a PDU, and the streams of which that changed what is registered
-- await everywhere
abbrev pub received_streams : Cs → ℕ → MsrpPdu → Streams → Streams
received_streams now at pdu side =
    at_port at
    (λ p. with_told_port at (with_part (received_part now pdu p.part) p) (told_by_receipt now pdu p.part) side)
    side

-- all timers that are due at a place have fired, and the streams of the keys that left await
-- everywhere
abbrev pub due_streams : Cs → ℕ → Streams → Streams
due_streams now at side =
    at_port at
    (λ p. with_told_port at (with_part (due_state now p.part) p) (left_keys now p.part) side)
    side

-- the leave timer of one key ends: where its registrar was LV, the key leaves
abbrev pub left_key : MsrpKey → Part → List MsrpKey
left_key key s = if is_leaving_in (find key_cmp key s.rows) then key ∷ [] else []

-- the leave timer of one key has ended at a place, and where the key left, its stream awaits
-- everywhere
abbrev pub left_streams : ℕ → MsrpKey → Streams → Streams
left_streams at key side =
    at_port at
    (λ p. with_told_port at (with_part (left_state key_cmp key p.part) p) (left_key key p.part) side)
    side

-- the LeaveAll timer has fired at a place: the LeaveAll machine is Active, and the timer restarts
-- (10.7.9)
abbrev pub leave_all_streams : Cs → ℕ → Streams → Streams
leave_all_streams now at side =
    at_port at (λ p. with_port_at at (with_part (leave_all_state now p.part) p) side) side

-- every Applicant at a place has taken the periodic event; the periodic timer stays as it is
abbrev pub periodic_streams : ℕ → Streams → Streams
periodic_streams at side =
    at_port at (λ p. with_port_at at (with_part (periodic_state p.part) p) side) side

-- the participant at a place has sent its PDU
abbrev pub sent_streams : Cs → ℕ → Streams → Streams
sent_streams now at side =
    at_port at (λ p. with_port_at at (with_part (sent_part now p.part) p) side) side

-- the participant at a place isn't sound any more, as after the loss of a PDU on its link
abbrev pub spoilt_streams : ℕ → Streams → Streams
spoilt_streams at side =
    at_port at
    (λ p. let s : Part = p.part in with_port_at at (with_part (record s { sound = false }) p) side)
    side

-- the keys that await at a port
abbrev pub awaiting_at : ℕ → Streams → List MsrpKey
awaiting_at at side = keys_at at side.awaiting

-- the port at a place once it is settled
abbrev pub settled_at : ℕ → Streams → PortState → PortState
settled_at at side port =
    settled_port at (seen_by side) (talker_keys side.talks side.ports) (awaiting_at at side) port

-- the Listener keys of the streams that settling books or drops there
abbrev pub moved_keys : ℕ → Streams → PortState → List MsrpKey
moved_keys at side port =
    listener_keys
    (moved_streams port.ledger (next_book at (seen_by side) (awaiting_at at side) port))

-- it is settled, and no key awaits there; the Listener keys of the streams that are booked or
-- dropped there await at every other port
abbrev pub settled_streams : ℕ → Streams → Streams
settled_streams at side = at_port at (λ p. record side {
  ports = slice_set side.ports at (settled_at at side p);
  awaiting = slice_set (marked_elsewhere key_cmp at (moved_keys at side p) side.awaiting) at [];
}) side

-- whether a clock shows at a port that a want which isn't booked may fit otherwise than before
abbrev pub shows_at : ℕ → PortState → Bool
shows_at now port = nat_lt port.ledger.moment now && has_new_booking port.ledger

-- the awaiting keys of each port, with these keys at each where the clock shows
abbrev pub clocked_sets : ℕ → List MsrpKey → List PortState → List (List MsrpKey) → List (List MsrpKey)
clocked_sets now keys [] sets = []
clocked_sets now keys (p ∷ ports) [] = []
clocked_sets now keys (p ∷ ports) (set ∷ sets) =
    (if shows_at now p then all_marked key_cmp keys set else set) ∷ clocked_sets now keys ports sets

-- the port with its ledger at another moment
abbrev pub clocked_port : ℕ → PortState → PortState
clocked_port now port = record port { ledger = clocked_book now port.ledger }

-- the clock goes on, and the Talker keys of all streams with a Talker await where it shows
abbrev pub clocked_streams : ℕ → Streams → Streams
clocked_streams now side =
    record side {
      ports = map (clocked_port now) side.ports;
      awaiting = clocked_sets now (talker_keys side.talks side.ports) side.ports side.awaiting;
      moment = now;
    }

-- the application's Talkers without that of a stream
abbrev pub talks_without : StreamId → List Talker → List Talker
talks_without stream talks = filter (λ (t : Talker). not (t.stream.0 == stream.0)) talks

-- the streams that the application listens to, without one
abbrev pub listens_without : StreamId → List StreamId → List StreamId
listens_without stream listens = filter (λ (x : StreamId). not (x.0 == stream.0)) listens

-- the application's Talkers and streams are other ones, which differ at one stream, whose keys
-- await at every port
abbrev pub with_asks : StreamId → List Talker → List StreamId → Streams → Streams
with_asks stream talks listens side =
    record side {
      talks = talks;
      listens = listens;
      awaiting = marked_everywhere key_cmp (keys_of stream) side.awaiting;
    }

-- whether a Talker is one that states the same
abbrev pub same_talker : Talker → Talker → Bool
same_talker a b =
    (a.stream.0 == b.stream.0) && (a.dest == b.dest) && (a.vid == b.vid)
    && (a.max_frame == b.max_frame) && (a.frames == b.frames) && (a.priority == b.priority)
    && (rank_number a.rank == rank_number b.rank)
    && (a.latency == b.latency)

-- whether the application has a Talker of the stream already, which states the same as this one
abbrev pub is_talk : Option Talker → Talker → Bool
is_talk None talker = false
is_talk (Some was) talker = same_talker was talker

-- whether what the application asks for is so already
abbrev pub is_asked_already : SrpRequest → Streams → Bool
is_asked_already (Talk talker) side = is_talk (talk_of talker.stream side.talks) talker
is_asked_already (Hush stream) side = not (has_talk stream side)
is_asked_already (Listen stream) side = has_listen stream side
is_asked_already (Unlisten stream) side = not (has_listen stream side)

-- what the application asks for: to talk with a Talker, which takes the place of its stream's, to
-- talk a stream no more, to listen to one, or to listen no more; where that is so already, nothing
-- changes
abbrev pub requested_streams : SrpRequest → Streams → Streams
requested_streams (Talk talker) side =
    if is_talk (talk_of talker.stream side.talks) talker then side
    else with_asks talker.stream (talker ∷ talks_without talker.stream side.talks) side.listens side
requested_streams (Hush stream) side =
    if has_talk stream side then with_asks stream (talks_without stream side.talks) side.listens side
    else side
requested_streams (Listen stream) side =
    if has_listen stream side then side else with_asks stream side.talks (stream ∷ side.listens) side
requested_streams (Unlisten stream) side =
    if has_listen stream side
    then with_asks stream side.talks (listens_without stream side.listens) side
    else side

-- ---- what a side has to do

-- whether nothing is pending at any port: every participant is at rest, and no key awaits
abbrev pub are_still : Streams → Bool
are_still side =
    list_all (λ (p : PortState). is_still p.part) side.ports
    && none_awaits side.awaiting

-- whether at some port a timer is due at a moment, or a key awaits
abbrev pub is_busy : Cs → Streams → Bool
is_busy now side =
    list_any (λ (p : PortState). is_any_due now p.part) side.ports
    || some_awaits side.awaiting

-- ---- what every side keeps

-- a port's participant has a participant's rows, with contents of their keys, and its ledger is a
-- ledger at the moment of the side
pub record IsPort (now : ℕ) (port : PortState) : Type 0 where
  pub rows : AreRows key_cmp port.part.rows
  pub contents : HasOwnContents port.part
  pub ledger : IsKeptBook port.ledger
  pub moment : port.ledger.moment ≡ now

-- at a link port each key that doesn't await is declared exactly as the rules state it, a Domain
-- for good, and a stream of which neither key awaits is kept as wanting exactly where it wants
-- bandwidth, with its class, rank and slope
pub record IsSettled (at : ℕ) (port : PortState) (awaiting : List MsrpKey) (regs : StreamId → Registrations) : Type 0 where
  pub declared : (key : MsrpKey) → is_awaiting key_cmp key awaiting ≡ false
      → declared_at key_cmp key port.part ≡ stated_at at port regs key
  pub wanted : (stream : StreamId) → is_awaiting key_cmp (TalkerKey stream) awaiting ≡ false
      → is_awaiting key_cmp (ListenerKey stream) awaiting ≡ false
      → want_of port.ledger.entries stream ≡ wanted_at at port (regs stream).talkers stream

-- the port at a place, where there is one, is settled but for the keys that await there
abbrev pub IsSettledAt : Streams → ℕ → Type 0
IsSettledAt side at =
    (port : PortState) (keys : List MsrpKey)
    → slice_get side.ports at ≡ Some port → slice_get side.awaiting at ≡ Some keys
    → IsSettled at port keys (seen_by side)

-- what every side keeps: what every port keeps, a set of awaiting keys for each, and each settled
-- but for those keys
pub record IsKept (side : Streams) : Type 0 where
  pub ports : AllByRecursion (IsPort side.moment) side.ports
  pub sets : length side.awaiting ≡ length side.ports
  pub settled : (at : ℕ) → IsSettledAt side at

-- ---- what the calls answer

-- a PDU was received: its reading has acted, or it is malformed and nothing has
abbrev pub HasReceived : Cs → ℕ → List ℕ → Streams → Result ℕ DecodeErr → Streams → Type 0
HasReceived now at octets before (Ok n) after =
    (pdu : MsrpPdu) × (msrp_reading octets ≡ Ok pdu) × (n ≡ count_of (length pdu.events))
    × (after ≡ received_streams now at pdu before)
HasReceived now at octets before (Err (errors.Malformed place)) after =
    (msrp_reading octets ≡ Err place) × (after ≡ before)
HasReceived now at octets before (Err errors.NoMemory) after = after ≡ before

-- octets in which a PDU is written: they read as it, its events in the order of types, and fit into
-- a frame
pub record IsWritten (pdu : MsrpPdu) (octets : List ℕ) : Type 0 where
  pub spelled : octets ≡ msrp_spelling pdu
  pub reads : msrp_reading octets ≡ Ok (as_written pdu)
  pub short : length octets ≤ 1500

-- a port had nothing to say, and nothing changed; or it has said what it had in these octets
abbrev pub HasSent : Cs → ℕ → Streams → Result (Option (List ℕ)) NoMemory → Streams → Type 0
HasSent now at before (Ok None) after =
    IfSome (slice_get before.ports at) (λ p. is_silent p.part ≡ true) × (after ≡ before)
HasSent now at before (Ok (Some octets)) after =
    IfSome (slice_get before.ports at)
    (λ p. (is_silent p.part ≡ false) × IsWritten (pdu_sent now p.part) octets)
    × (after ≡ sent_streams now at before)
HasSent now at before (Err e) after = after ≡ before

-- ---- what a participant that takes the place of another owes

-- the same keys are declared, with the same contents
abbrev pub SameDeclared : Part → Part → Type 0
SameDeclared before after =
    (key : MsrpKey) → declared_at key_cmp key after ≡ declared_at key_cmp key before

-- each key whose registration differs is told
abbrev pub TellsEach : List MsrpKey → Part → Part → Type 0
TellsEach told before after =
    (key : MsrpKey)
    → Contains told key ⊎ (registered_at key_cmp key after ≡ registered_at key_cmp key before)
