-- The participant and the side of MMRP at a node, with MAC addresses as keys and no content (IEEE
-- Std 802.1Q-2018, 10.12.1): the words on a flat side, for MAC addresses.
use Rattle.std.specs.Prelude.{◌<◌, ◌^◌, ℕ, Bool, List}
use Rattle.std.specs.Ordering.{nat_cmp}
use Rattle.srp_base.specs.declared.{numbers.Cs.Cs}
use Rattle.mmrp_codec.specs.declared.pdu.GroupPdu.{GroupPdu}
use Rattle.mmrp_codec.specs.{Meaning.mmrp_reading, Writing.mmrp_spelling}
use Rattle.mrp_participant.specs.{Lookup.find, Row.registrar_of}
use Rattle.registrar.specs.declared.Registrar.{Registrar}
use Rattle.flat_side.specs.Codec.{Codec, IsWritten as IsWrittenBy}
use Rattle.flat_side.specs.Keys as keys
use Rattle.flat_side.specs.Part as flat
use Rattle.flat_side.specs.Side as side

-- the stated octets of a PDU without MAC addresses: ProtocolVersion, a Message of each type with
-- the vector of a LeaveAll alone, the EndMarks
abbrev pub base : ℕ
base = 22

-- the stated octets of a MAC address: a vector of it alone
abbrev pub octets : Unit {0} → ℕ
octets _ = 9

-- the number is a MAC address
abbrev pub IsMac : ℕ → Type 0
IsMac mac = mac < 2 ^ 48

-- what the PDUs of MMRP say, what octets read as, and how a PDU is written
abbrev pub mac_codec : Codec ℕ GroupPdu
mac_codec =
    record {
      leave_all_of = λ pdu. pdu.leave_all;
      events_of = λ pdu. pdu.events;
      pdu_of = λ leave_all events. record { leave_all = leave_all; events = events };
      reading = mmrp_reading;
      spelling = mmrp_spelling;
    }

-- the state of a port's participant, with a row for each MAC address that it keeps something of
abbrev pub Part : Type 0
Part = flat.Part ℕ

-- the participants of the link ports, the MAC addresses that await settling at each, and those that
-- the application has joined
abbrev pub Groups : Type 0
Groups = side.FlatState ℕ

-- the PDU that is sent: a LeaveAll where the LeaveAll machine is Active, and what those rows say
-- that find room in it
abbrev pub pdu_sent : Cs → Part → GroupPdu
pdu_sent now s = side.pdu_sent nat_cmp mac_codec base octets now s

-- whether a MAC address is declared: the Applicant is in any state but VO and LA
abbrev pub declares : ℕ → Part → Bool
declares mac s = flat.declares nat_cmp mac s

-- the state of its registrar, MT where there is no row
abbrev pub registrar_in : ℕ → Part → Registrar
registrar_in mac s = registrar_of (find nat_cmp mac s.rows)

-- whether it is registered: the Registrar is IN or LV
abbrev pub registers : ℕ → Part → Bool
registers mac s = flat.registers nat_cmp mac s

-- whether the application has joined it
abbrev pub has_joined : ℕ → Groups → Bool
has_joined mac groups = side.has_own nat_cmp mac groups

-- octets in which a PDU is written: they read as it, and fit into a frame
abbrev pub IsWritten : GroupPdu → List ℕ → Type 0
IsWritten pdu octets = IsWrittenBy mac_codec pdu octets

-- each row of a participant is of a MAC address
abbrev pub HasMacRows : Part → Type 0
HasMacRows s = keys.HasKeyRows nat_cmp IsMac s
