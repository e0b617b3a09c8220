-- What an MRPDU of MVRP says (IEEE Std 802.1Q-2018, 10.8.1.2, 11.2.3.1).
use Rattle.std.specs.Prelude.{◌≡◌, ℕ, ◌+◌, ◌&&◌, List, [], ◌∷◌, ◌++◌, nat_le, if◌then◌else◌, Result, Ok, Err}
use Rattle.std.specs.List.{flat_map}
use Rattle.srp_base.specs.declared.mrp.MrpEvent.{MrpEvent}
use Rattle.mrpdu_codec.specs.declared.{form.AppForm.TheVariants.Mvrp, pdu.VectorAttr.VectorAttr, pdu.Message.Message, pdu.Pdu.Pdu, raw.RawVector.RawVector}
use Rattle.mrpdu_codec.specs.{Octets.number, Raw.attr_in, Grammar.Spells, Reading.reading, Shape.has_leave_all}
use Rattle.mvrp_codec.specs.declared.pdu.MvrpPdu.{MvrpPdu}

-- the VID in the two octets that each FirstValue of MVRP has; octets of another number are none
abbrev pub first_vid : List ℕ → ℕ
first_vid (high ∷ low ∷ []) = number high low
first_vid _ = 0

-- a VID outside 1 to 4,094 gives no event
abbrev pub event_at : MrpEvent → ℕ → List (MrpEvent × ℕ)
event_at event vid = if nat_le 1 vid && nat_le vid 4094 then (event, vid) ∷ [] else []

-- the events of consecutive VIDs from one on
abbrev pub events_from : ℕ → List MrpEvent → List (MrpEvent × ℕ)
events_from vid [] = []
events_from vid (event ∷ events) = event_at event vid ++ events_from (vid + 1) events

-- the events of a vector: its first one is that of FirstValue
abbrev pub vector_events : VectorAttr → List (MrpEvent × ℕ)
vector_events v = events_from (first_vid v.first) v.events

-- the events of a vector in place
abbrev pub events_in_place : RawVector → List (MrpEvent × ℕ)
events_in_place raw = vector_events (attr_in raw)

-- the events of a Message, in the order of its octets
abbrev pub message_events : Message → List (MrpEvent × ℕ)
message_events m = flat_map vector_events m.vectors

-- what a PDU says: a LeaveAll or none, and events in the order of its octets
abbrev pub meaning : Pdu → MvrpPdu
meaning pdu = record { leave_all = has_leave_all pdu; events = flat_map message_events pdu.messages }

-- the octets spell a PDU with this meaning
pub record SaysMvrp (octets : List ℕ) (read : MvrpPdu) : Type 0 where
  pub pdu : Pdu
  pub spelled : Spells Mvrp octets pdu
  pub meant : read ≡ meaning pdu

-- what a PDU that was read says, or the place where its octets break
abbrev pub read_as : Result Pdu ℕ → Result MvrpPdu ℕ
read_as (Ok pdu) = Ok (meaning pdu)
read_as (Err place) = Err place

-- The reading of the octets of an MRPDU of MVRP: what they say, or the place where they break.
abbrev pub mvrp_reading : List ℕ → Result MvrpPdu ℕ
mvrp_reading octets = read_as (reading Mvrp octets)
