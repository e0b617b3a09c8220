-- What an MRPDU of MSRP says (IEEE Std 802.1Q-2018, 10.8.1.2, 35.2.2), and where one that
-- `mrpdu_codec` reads is malformed all the same.
use Rattle.std.specs.Prelude.{◌≡◌, ℕ, ◌+◌, Bool, true, false, List, [], ◌∷◌, ◌++◌, length, take, slice_get, slice_index, Option, Some, None, Result, Ok, Err, ◌==◌, if◌then◌else◌}
use Rattle.std.specs.{Option.unwrap_or, List.flat_map, List.list_all}
use Rattle.srp_base.specs.declared.{numbers.StreamId.StreamId, mrp.MrpEvent.MrpEvent, streams.ListenerKind.ListenerKind}
use Rattle.srp_base.specs.declared.streams.ListenerKind.TheVariants.{AskingFailed, Ready, ReadyFailed}
use Rattle.mrpdu_codec.specs.declared.{form.AppForm.TheVariants.Msrp, pdu.VectorAttr.VectorAttr, pdu.Message.Message, pdu.Pdu.Pdu}
use Rattle.mrpdu_codec.specs.{Grammar.Spells, Grammar.Breaks, Reading.reading, Shape.has_leave_all, Places.first_places, Places.first_value_place}
use Rattle.msrp_codec.specs.declared.{attribute_type.AttributeType.AttributeType, first_value.FirstValue.FirstValue, pdu.MsrpKey.MsrpKey, pdu.MsrpContent.MsrpContent, pdu.MsrpPdu.MsrpPdu}
use Rattle.msrp_codec.specs.declared.first_value.FirstValue.TheVariants.{Advertise, Failed, Listener, Domain}
use Rattle.msrp_codec.specs.declared.pdu.MsrpKey.TheVariants as keys
use Rattle.msrp_codec.specs.declared.pdu.MsrpContent.TheVariants as contents
use Rattle.msrp_codec.specs.{AttributeType.type_of, FirstValue.first_value_of, FirstValue.talker_after, FirstValue.values_fit}

-- ---- Events

-- an event of a key, with what it declares
abbrev pub KeyEvent : Type 0
KeyEvent = MrpEvent × MsrpKey × MsrpContent

-- what a Listener declares by a FourPackedEvent (35.2.2.7.2): 0, which is Ignore, declares nothing
abbrev pub kind_of : ℕ → Option ListenerKind
kind_of n =
    if n == 1 then Some AskingFailed
    else (if n == 2 then Some Ready
    else (if n == 3 then Some ReadyFailed
    else None))

-- a Listener's event; there is none where it declares nothing
abbrev pub listener_event : MrpEvent → StreamId → Option ListenerKind → List KeyEvent
listener_event event stream None = []
listener_event event stream (Some kind) = (event, keys.Listener stream, contents.Listener kind) ∷ []

-- the event of the value so many places after a FirstValue, with its FourPackedEvent
abbrev pub event_at : FirstValue → ℕ → MrpEvent → ℕ → List KeyEvent
event_at (Advertise t) i event four_packed =
    (event, keys.Talker (record { 0 = t.stream.0 + i }), contents.Advertise (talker_after t i)) ∷ []
event_at (Failed t failure) i event four_packed =
    (event, keys.Talker (record { 0 = t.stream.0 + i }), contents.Failed (talker_after t i) failure) ∷ []
event_at (Listener stream) i event four_packed =
    listener_event event (record { 0 = stream.0 + i }) (kind_of four_packed)
event_at (Domain class priority vid) i event four_packed =
    (event, keys.Domain (class + i), contents.Domain (priority + i) vid) ∷ []

-- the events of consecutive values, from the one so many places after FirstValue on
abbrev pub events_from : FirstValue → List ℕ → ℕ → List MrpEvent → List KeyEvent
events_from first four_packed i [] = []
events_from first four_packed i (event ∷ events) =
    event_at first i event (slice_index four_packed i) ++ events_from first four_packed (i + 1) events

-- the events of a vector
abbrev pub vector_events : AttributeType → VectorAttr → List KeyEvent
vector_events t v = events_from (first_value_of t v.first) v.params 0 v.events

-- the events of vectors of a type, in the order of their octets; a type that MSRP doesn't have
-- gives none
abbrev pub typed_events : Option AttributeType → List VectorAttr → List KeyEvent
typed_events None vs = []
typed_events (Some t) vs = flat_map (vector_events t) vs

-- the events of a Message, by its AttributeType
abbrev pub message_events : Message → List KeyEvent
message_events m = typed_events (type_of m.kind) m.vectors

-- what a PDU says: a LeaveAll or none, and events in the order of its octets
abbrev pub meaning : Pdu → MsrpPdu
meaning pdu = record { leave_all = has_leave_all pdu; events = flat_map message_events pdu.messages }

-- ---- Values past the end of a field

-- the values of a vector stay within the fields that are counted up
abbrev pub is_in_range : AttributeType → VectorAttr → Bool
is_in_range t v = values_fit (first_value_of t v.first) (length v.events)

-- the values of all these vectors of a type stay in range; a type that MSRP doesn't have sets no
-- limit
abbrev pub are_in_range : Option AttributeType → List VectorAttr → Bool
are_in_range None vs = true
are_in_range (Some t) vs = list_all (is_in_range t) vs

-- the values of all vectors of a Message stay in range
abbrev pub message_in_range : Message → Bool
message_in_range m = are_in_range (type_of m.kind) m.vectors

-- the number of the first of these vectors that isn't in range, where the first of them has this
-- number
abbrev pub first_past_in : AttributeType → ℕ → List VectorAttr → Option ℕ
first_past_in t i [] = None
first_past_in t i (v ∷ vs) = if is_in_range t v then first_past_in t (i + 1) vs else Some i

-- the number of the first of these vectors of a type that isn't in range, from 0; None for a type
-- MSRP doesn't have
abbrev pub typed_past : Option AttributeType → List VectorAttr → Option ℕ
typed_past None vs = None
typed_past (Some t) vs = first_past_in t 0 vs

-- the number of the first vector of a Message that isn't in range, from 0
abbrev pub message_past : Message → Option ℕ
message_past m = typed_past (type_of m.kind) m.vectors

-- a Message and a vector in it, where that is one
abbrev pub found_in : ℕ → Option ℕ → Option (ℕ × ℕ) → Option (ℕ × ℕ)
found_in message None later = later
found_in message (Some vector) later = Some (message, vector)

-- the first vector of Messages, the first of which has this number, that isn't in range: by the
-- number of its Message and its own number there
abbrev pub first_past : ℕ → List Message → Option (ℕ × ℕ)
first_past i [] = None
first_past i (m ∷ ms) = found_in i (message_past m) (first_past (i + 1) ms)

-- ---- The reading

-- the octets spell a PDU with this meaning, and all its values stay within their fields
pub record SaysMsrp (octets : List ℕ) (read : MsrpPdu) : Type 0 where
  pub pdu : Pdu
  pub spelled : Spells Msrp octets pdu
  pub in_range : list_all message_in_range pdu.messages ≡ true
  pub meant : read ≡ meaning pdu

-- the octets spell a PDU, and this is the place of the first FirstValue whose values pass the end
-- of a field
pub record PassesEnd (octets : List ℕ) (place : ℕ) : Type 0 where
  pub pdu : Pdu
  pub spelled : Spells Msrp octets pdu
  -- the Message and the vector, by their numbers
  pub message : ℕ
  pub vector : ℕ
  pub m : Message
  pub v : VectorAttr
  pub t : AttributeType
  pub is_message : slice_get pdu.messages message ≡ Some m
  pub is_vector : slice_get m.vectors vector ≡ Some v
  pub is_type : type_of m.kind ≡ Some t
  -- its values pass an end, and no earlier ones do
  pub passes : is_in_range t v ≡ false
  pub earlier_messages : list_all message_in_range (take message pdu.messages) ≡ true
  pub earlier_vectors : list_all (is_in_range t) (take vector m.vectors) ≡ true
  -- it stands there
  pub stands : first_value_place (first_places Msrp octets) message vector ≡ Some place

-- where octets are malformed: where the grammar breaks, and else where a value passes the end of
-- its field
pub data MsrpBreaks (octets : List ℕ) (place : ℕ) : Type 0 where
  grammar : Breaks Msrp octets place → MsrpBreaks octets place
  value : PassesEnd octets place → MsrpBreaks octets place

-- the place of a vector, by the numbers of its Message and its own; each vector of a PDU has one
abbrev pub place_in : List ℕ → ℕ × ℕ → ℕ
place_in octets x = unwrap_or (first_value_place (first_places Msrp octets) x.0 x.1) 0

-- what a PDU that was read says, unless a value passes the end of its field
abbrev pub meaning_or_place : List ℕ → Pdu → Option (ℕ × ℕ) → Result MsrpPdu ℕ
meaning_or_place octets pdu None = Ok (meaning pdu)
meaning_or_place octets pdu (Some x) = Err (place_in octets x)

-- what the octets say by their reading as an MRPDU; where the grammar breaks, the place of that
abbrev pub read_as : List ℕ → Result Pdu ℕ → Result MsrpPdu ℕ
read_as octets (Ok pdu) = meaning_or_place octets pdu (first_past 0 pdu.messages)
read_as octets (Err place) = Err place

-- The reading of the octets of an MRPDU of MSRP: what they say, or the place where they are
-- malformed.
abbrev pub msrp_reading : List ℕ → Result MsrpPdu ℕ
msrp_reading octets = read_as octets (reading Msrp octets)
