-- The one spelling in which the events of MAC addresses are written (IEEE Std 802.1Q-2018,
-- 10.8.1.2): with a LeaveAll a Message of the service requirement type with it alone, and then a
-- vector for each event, in the order given.
use Rattle.std.specs.Prelude.{◌≡◌, ℕ, ◌≤◌, Bool, true, false, ◌||◌, List, [], ◌∷◌, ◌++◌, length, map, nat_lt}
use Rattle.std.specs.Int.{bytes_high_first}
use Rattle.mrpdu_codec.specs.declared.{form.AppForm.TheVariants.Mmrp, pdu.VectorAttr.VectorAttr, pdu.Message.Message, pdu.Pdu.Pdu}
use Rattle.mrpdu_codec.specs.Canonical.{spelling}
use Rattle.mmrp_codec.specs.declared.pdu.GroupPdu.{GroupPdu}
use Rattle.mmrp_codec.specs.Meaning.{MacEvent}

-- the vector of a LeaveAll alone: no value, and a FirstValue of zeros
abbrev pub leave_vector : List ℕ → VectorAttr
leave_vector zeros = record { leave_all = true; first = zeros; events = []; params = [] }

-- the Messages of service requirements: a LeaveAll, where there is one, since it counts for both
-- types
abbrev pub service_messages : Bool → List Message
service_messages false = []
service_messages true = record { kind = 1; vectors = leave_vector (0 ∷ []) ∷ [] } ∷ []

-- the vector of an event alone
abbrev pub event_vector : Bool → MacEvent → VectorAttr
event_vector leave x = record {
  leave_all = leave;
  first = bytes_high_first 6 x.1;
  events = x.0 ∷ [];
  params = [];
}

-- the vectors of events; the first has the LeaveAll
abbrev pub event_vectors : Bool → List MacEvent → List VectorAttr
event_vectors false [] = []
event_vectors true [] = leave_vector (0 ∷ 0 ∷ 0 ∷ 0 ∷ 0 ∷ 0 ∷ []) ∷ []
event_vectors leave (x ∷ xs) = event_vector leave x ∷ map (event_vector false) xs

-- the Message of these vectors of MAC addresses
abbrev pub mac_message : List VectorAttr → Message
mac_message vs = record { kind = 2; vectors = vs }

-- the PDU of a LeaveAll and events
abbrev pub pdu_for : GroupPdu → Pdu
pdu_for read = record {
  version = 0;
  messages = service_messages read.leave_all ++ mac_message (event_vectors read.leave_all read.events) ∷ [];
}

-- the octets in which it is written
abbrev pub mmrp_spelling : GroupPdu → List ℕ
mmrp_spelling read = spelling Mmrp (pdu_for read)

-- a LeaveAll or an event, and few enough events for 1,500 octets
pub record IsWritable (read : GroupPdu) : Type 0 where
  pub some : (read.leave_all || nat_lt 0 (length read.events)) ≡ true
  pub few : length read.events ≤ 164
