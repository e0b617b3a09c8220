-- What an MRPDU of MMRP says (IEEE Std 802.1Q-2018, 10.8.1.2, 10.12.1), and where one that
-- `mrpdu_codec` reads is malformed all the same.
use Rattle.std.specs.Prelude.{◌≡◌, ◌<◌, ℕ, ◌+◌, ◌^◌, Bool, true, false, List, [], ◌∷◌, length, take, slice_get, Option, Some, None, Result, Ok, Err, nat_le, ◌==◌, if◌then◌else◌}
use Rattle.std.specs.{Option.unwrap_or, List.flat_map, List.list_all, List.AllByRecursion}
use Rattle.srp_base.specs.Hexadecimal.{number_high_first}
use Rattle.srp_base.specs.declared.mrp.MrpEvent.{MrpEvent}
use Rattle.mrpdu_codec.specs.declared.{form.AppForm.TheVariants.Mmrp, pdu.VectorAttr.VectorAttr, pdu.Message.Message, pdu.Pdu.Pdu}
use Rattle.mrpdu_codec.specs.{Grammar.Spells, Grammar.Breaks, Reading.reading, Shape.has_leave_all, Places.first_places, Places.first_value_place}
use Rattle.mmrp_codec.specs.declared.pdu.GroupPdu.{GroupPdu}

-- an event of a MAC address
abbrev pub MacEvent : Type 0
MacEvent = MrpEvent × ℕ

-- each event is of a number that 48 bits hold
abbrev pub AreMacs : List MacEvent → Type 0
AreMacs events = AllByRecursion (λ e. e.1 < 2 ^ 48) events

-- ---- What is said

-- the vectors of MAC addresses in a Message: all those of the type 2. The type 1, service
-- requirement, has none (10.12.1.7).
abbrev pub mac_vectors : Message → List VectorAttr
mac_vectors m = if m.kind == 2 then m.vectors else []

-- the events of consecutive MAC addresses from one on
abbrev pub events_from : ℕ → List MrpEvent → List MacEvent
events_from mac [] = []
events_from mac (event ∷ events) = (event, mac) ∷ events_from (mac + 1) events

-- the events of a vector: its first one is that of FirstValue
abbrev pub vector_events : VectorAttr → List MacEvent
vector_events v = events_from (number_high_first v.first) v.events

-- the events of a Message, in the order of its octets
abbrev pub message_events : Message → List MacEvent
message_events m = flat_map vector_events (mac_vectors m)

-- what a PDU says: a LeaveAll or none, of whatever type, and events in the order of its octets
abbrev pub meaning : Pdu → GroupPdu
meaning pdu = record { leave_all = has_leave_all pdu; events = flat_map message_events pdu.messages }

-- ---- Values past the end of the field

-- so many consecutive values from a number on stay within 48 bits
abbrev pub values_fit : ℕ → ℕ → Bool
values_fit first n = nat_le (first + n) (2 ^ 48)

-- the values of a vector stay within 48 bits
abbrev pub is_in_range : VectorAttr → Bool
is_in_range v = values_fit (number_high_first v.first) (length v.events)

-- those of all vectors of a Message do
abbrev pub message_in_range : Message → Bool
message_in_range m = list_all is_in_range (mac_vectors m)

-- the number of the first of these vectors that isn't in range, where the first of them has this
-- number
abbrev pub first_past_in : ℕ → List VectorAttr → Option ℕ
first_past_in i [] = None
first_past_in i (v ∷ vs) = if is_in_range v then first_past_in (i + 1) vs else Some i

-- the number of the first vector of a Message that isn't in range, from 0
abbrev pub message_past : Message → Option ℕ
message_past m = first_past_in 0 (mac_vectors m)

-- a Message and a vector in it, where that is one
abbrev pub found_in : ℕ → Option ℕ → Option (ℕ × ℕ) → Option (ℕ × ℕ)
found_in message None later = later
found_in message (Some vector) later = Some (message, vector)

-- the first vector of Messages, the first of which has this number, that isn't in range: by the
-- number of its Message and its own number there
abbrev pub first_past : ℕ → List Message → Option (ℕ × ℕ)
first_past i [] = None
first_past i (m ∷ ms) = found_in i (message_past m) (first_past (i + 1) ms)

-- ---- The reading

-- the octets spell a PDU with this meaning, and all its MAC addresses stay within 48 bits
pub record SaysMmrp (octets : List ℕ) (read : GroupPdu) : Type 0 where
  pub pdu : Pdu
  pub spelled : Spells Mmrp octets pdu
  pub in_range : list_all message_in_range pdu.messages ≡ true
  pub meant : read ≡ meaning pdu

-- the octets spell a PDU, and this is the place of the first FirstValue whose values pass 48 bits
pub record PassesEnd (octets : List ℕ) (place : ℕ) : Type 0 where
  pub pdu : Pdu
  pub spelled : Spells Mmrp octets pdu
  -- the Message and the vector, by their numbers
  pub message : ℕ
  pub vector : ℕ
  pub m : Message
  pub v : VectorAttr
  pub is_message : slice_get pdu.messages message ≡ Some m
  pub is_vector : slice_get (mac_vectors m) vector ≡ Some v
  -- its values pass the end, and no earlier ones do
  pub passes : is_in_range v ≡ false
  pub earlier_messages : list_all message_in_range (take message pdu.messages) ≡ true
  pub earlier_vectors : list_all is_in_range (take vector (mac_vectors m)) ≡ true
  -- it stands there
  pub stands : first_value_place (first_places Mmrp octets) message vector ≡ Some place

-- where octets are malformed: where the grammar breaks, and else where a MAC address passes 48 bits
pub data MmrpBreaks (octets : List ℕ) (place : ℕ) : Type 0 where
  grammar : Breaks Mmrp octets place → MmrpBreaks octets place
  value : PassesEnd octets place → MmrpBreaks octets place

-- the place of a vector, by the numbers of its Message and its own; each vector of a PDU has one
abbrev pub place_in : List ℕ → ℕ × ℕ → ℕ
place_in octets x = unwrap_or (first_value_place (first_places Mmrp octets) x.0 x.1) 0

-- what a PDU that was read says, unless a MAC address passes 48 bits
abbrev pub meaning_or_place : List ℕ → Pdu → Option (ℕ × ℕ) → Result GroupPdu ℕ
meaning_or_place octets pdu None = Ok (meaning pdu)
meaning_or_place octets pdu (Some x) = Err (place_in octets x)

-- what the octets say by their reading as an MRPDU; where the grammar breaks, the place of that
abbrev pub read_as : List ℕ → Result Pdu ℕ → Result GroupPdu ℕ
read_as octets (Ok pdu) = meaning_or_place octets pdu (first_past 0 pdu.messages)
read_as octets (Err place) = Err place

-- The reading of the octets of an MRPDU of MMRP: what they say, or the place where they are
-- malformed.
abbrev pub mmrp_reading : List ℕ → Result GroupPdu ℕ
mmrp_reading octets = read_as octets (reading Mmrp octets)
