-- The participant of MVRP at a port, with VIDs as keys and no content (IEEE Std 802.1Q-2018,
-- 11.2.3): the words on a flat participant, for VIDs.
use Rattle.std.specs.Prelude.{ℕ, Bool, List}
use Rattle.std.specs.Ordering.{nat_cmp}
use Rattle.srp_base.specs.declared.{numbers.Cs.Cs, mrp.MrpEvent.MrpEvent}
use Rattle.mvrp_codec.specs.declared.pdu.MvrpPdu.{MvrpPdu}
use Rattle.mvrp_codec.specs.{Meaning.mvrp_reading, Writing.mvrp_spelling}
use Rattle.mrp_participant.specs.State.{sent_state}
use Rattle.flat_side.specs.Codec.{Codec}
use Rattle.flat_side.specs.Part as flat
use Rattle.flat_side.specs.Side as side

-- the stated octets of a PDU without VIDs: ProtocolVersion, a Message with the vector of a LeaveAll
-- alone, two EndMarks
abbrev pub base : ℕ
base = 11

-- the stated octets of a VID: those of a vector of it alone, with its header, FirstValue and one of
-- ThreePackedEvents
abbrev pub octets : Unit {0} → ℕ
octets _ = 5

-- what the PDUs of MVRP say, what octets read as, and how a PDU is written
abbrev pub vlan_codec : Codec ℕ MvrpPdu
vlan_codec =
    record {
      leave_all_of = λ pdu. pdu.leave_all;
      events_of = λ pdu. pdu.events;
      pdu_of = λ leave_all events. record { leave_all = leave_all; events = events };
      reading = mvrp_reading;
      spelling = mvrp_spelling;
    }

-- the state of a port's participant, with a row for each VID that it keeps something of
abbrev pub Part : Type 0
Part = flat.Part ℕ

-- what the events of a PDU say to a participant
abbrev pub messages : MvrpPdu → List (MrpEvent × ℕ × Unit {0})
messages pdu = flat.said_events pdu.events

-- the participant after it received a PDU
abbrev pub received_part : Cs → MvrpPdu → Part → Part
received_part now pdu s = flat.received_part nat_cmp now pdu.leave_all pdu.events s

-- the VIDs whose registration a received PDU changes, ascending
abbrev pub told_by_receipt : Cs → MvrpPdu → Part → List ℕ
told_by_receipt now pdu s = flat.told_by_receipt nat_cmp now pdu.leave_all pdu.events s

-- the PDU that is sent: a LeaveAll where the LeaveAll machine is Active, and what those rows say
-- that find room in it
abbrev pub pdu_sent : Cs → Part → MvrpPdu
pdu_sent now s = side.pdu_sent nat_cmp vlan_codec base octets now s

-- the participant after it sent its PDU
abbrev pub sent_part : Cs → Part → Part
sent_part now s = sent_state base octets nat_cmp now s

-- whether a VID is declared: the Applicant is in any state but VO and LA
abbrev pub declares : ℕ → Part → Bool
declares vid s = flat.declares nat_cmp vid s

-- whether a VID is registered: the Registrar is IN or LV
abbrev pub registers : ℕ → Part → Bool
registers vid s = flat.registers nat_cmp vid s

-- a VID is settled: declared where the rule says so, else withdrawn
abbrev pub settled_vid : (ℕ → Bool) → Part → ℕ → Part
settled_vid rule s vid = flat.settled_key nat_cmp rule s vid

-- these VIDs are settled, in this order
abbrev pub settled_part : (ℕ → Bool) → List ℕ → Part → Part
settled_part rule vids s = flat.settled_part nat_cmp rule vids s
