-- The one spelling in which the events of keys are written (IEEE Std 802.1Q-2018, 10.8.1.2): a
-- Message for each type that has an event or that LeaveAll asks for, types ascending, and in it a
-- vector for each event, in the order given.
use Rattle.std.specs.Prelude.{◌≡◌, ℕ, ◌+◌, ◌*◌, ◌≤◌, Bool, true, false, ◌||◌, List, [], ◌∷◌, length, map, replicate, nat_lt, ◌==◌, if◌then◌else◌}
use Rattle.std.specs.List.{flat_map, filter, sum_by, AllByRecursion}
use Rattle.mrpdu_codec.specs.declared.{form.AppForm.TheVariants.Msrp, pdu.VectorAttr.VectorAttr, pdu.Message.Message, pdu.Pdu.Pdu}
use Rattle.mrpdu_codec.specs.Canonical.{spelling}
use Rattle.msrp_codec.specs.declared.{attribute_type.AttributeType.AttributeType, pdu.MsrpKey.MsrpKey, pdu.MsrpPdu.MsrpPdu}
use Rattle.msrp_codec.specs.{AttributeType.number_of_type, AttributeType.length_of, AttributeType.all_types, FirstValue.IsFirst, FirstValue.first_octets, Content.type_of_content, Content.value_of, Content.four_packed_for, Content.Belongs, Content.octets_of_type, Content.octets_of, Content.base_octets, Meaning.KeyEvent}

-- the event is of this type
abbrev pub has_type : AttributeType → KeyEvent → Bool
has_type t x = number_of_type (type_of_content x.2) == number_of_type t

-- the events of a type, in the order given
abbrev pub of_type : AttributeType → List KeyEvent → List KeyEvent
of_type t events = filter (has_type t) events

-- the vector of an event alone
abbrev pub event_vector : Bool → KeyEvent → VectorAttr
event_vector leave x = record {
  leave_all = leave;
  first = first_octets (value_of x.1 x.2);
  events = x.0 ∷ [];
  params = four_packed_for x.2;
}

-- the vector of a LeaveAll alone: no value, and a FirstValue of zeros
abbrev pub leave_vector : AttributeType → VectorAttr
leave_vector t = record { leave_all = true; first = replicate (length_of t) 0; events = []; params = [] }

-- the vectors of a type's events; the first has the LeaveAll
abbrev pub type_vectors : Bool → AttributeType → List KeyEvent → List VectorAttr
type_vectors false t [] = []
type_vectors true t [] = leave_vector t ∷ []
type_vectors leave t (x ∷ xs) = event_vector leave x ∷ map (event_vector false) xs

-- a type without vectors has no Message
abbrev pub messages_for : AttributeType → List VectorAttr → List Message
messages_for t [] = []
messages_for t (v ∷ vs) = record { kind = number_of_type t; vectors = v ∷ vs } ∷ []

-- the Message of a type, if it has one
abbrev pub type_messages : Bool → List KeyEvent → AttributeType → List Message
type_messages leave events t = messages_for t (type_vectors leave t (of_type t events))

-- how many octets the vectors of a type take that has so many events
abbrev pub list_size : Bool → AttributeType → ℕ → ℕ
list_size leave t n = if n == 0 then (if leave then 2 + length_of t else 0) else n * octets_of_type t

-- the PDU of a LeaveAll and events
abbrev pub pdu_for : MsrpPdu → Pdu
pdu_for read = record { version = 0; messages = flat_map (type_messages read.leave_all read.events) all_types }

-- the octets in which it is written
abbrev pub msrp_spelling : MsrpPdu → List ℕ
msrp_spelling read = spelling Msrp (pdu_for read)

-- the events in the order of types: those of a Talker Advertise first, then those of a Talker
-- Failed, a Listener and a Domain
abbrev pub in_type_order : List KeyEvent → List KeyEvent
in_type_order events = flat_map (λ t. of_type t events) all_types

-- the events of a key, which a test tells from others
abbrev pub of_key : (MsrpKey → Bool) → List KeyEvent → List KeyEvent
of_key is_key events = filter (λ x. is_key x.1) events

-- what the octets say that were written
abbrev pub as_written : MsrpPdu → MsrpPdu
as_written read = record { leave_all = read.leave_all; events = in_type_order read.events }

-- the stated octets of events: the base, and those of each
abbrev pub stated_octets : List KeyEvent → ℕ
stated_octets events = base_octets + sum_by (λ x. octets_of x.2) events

-- a LeaveAll or an event, each content of its key, and few enough events for 1,500 octets
pub record IsWritable (read : MsrpPdu) : Type 0 where
  pub some : (read.leave_all || nat_lt 0 (length read.events)) ≡ true
  pub belong : AllByRecursion (λ x. Belongs x.1 x.2) read.events
  pub few : stated_octets read.events ≤ 1500

-- the numbers of each event's value fit in their fields
abbrev pub AreInRange : List KeyEvent → Type 0
AreInRange events = AllByRecursion (λ x. IsFirst (value_of x.1 x.2)) events
