-- MVRP at a node (IEEE Std 802.1Q-2018, 11.2): the words on a flat side, for VIDs.
use Rattle.std.specs.Prelude.{ℕ, Bool, List}
use Rattle.std.specs.Ordering.{nat_cmp}
use Rattle.srp_base.specs.declared.{numbers.Cs.Cs, ports.PortSetup.PortSetup}
use Rattle.mvrp_codec.specs.declared.pdu.MvrpPdu.{MvrpPdu}
use Rattle.flat_side.specs.Codec as codec
use Rattle.flat_side.specs.Side as flat
use Rattle.mvrp.specs.Part.{Part, base, octets, vlan_codec}

-- the participants of the link ports, in the order of the ports; the VIDs that await settling at
-- each, ascending; and the VIDs that the application declares, ascending
abbrev pub Vlans : Type 0
Vlans = flat.FlatState ℕ

-- whether the application declares a VID
abbrev pub has_own : ℕ → Vlans → Bool
has_own vid side = flat.has_own nat_cmp vid side

-- the flat rule at a port of a side: whether it is to declare a VID, since a port other than it, or
-- the application, has the VID registered
abbrev pub is_flat : Vlans → ℕ → ℕ → Bool
is_flat side at vid = flat.is_flat nat_cmp side at vid

-- ---- the side after a call

-- a new side: no VID is declared or registered, and none awaits
abbrev pub new_vlans : Cs → Bool → List PortSetup → Vlans
new_vlans leave_time periodic ports = flat.new_flat leave_time periodic ports

-- a participant has become another and has told VIDs, which await at every other port
abbrev pub with_told_part : ℕ → Part → List ℕ → Vlans → Vlans
with_told_part at s vids side = flat.with_told_part nat_cmp at s vids side

-- the participant at a place received a PDU, and the VIDs whose registration that changed await at
-- every other port
abbrev pub received_vlans : Cs → ℕ → MvrpPdu → Vlans → Vlans
received_vlans now at pdu side = flat.received_flat nat_cmp now at pdu.leave_all pdu.events side

-- all timers that are due at a place have fired, and the VIDs that left await at every other port
abbrev pub due_vlans : Cs → ℕ → Vlans → Vlans
due_vlans now at side = flat.due_flat nat_cmp now at side

-- the leave timer of one VID ends: where its registrar was LV, the VID leaves
abbrev pub left_vids : ℕ → Part → List ℕ
left_vids vid s = flat.left_key nat_cmp vid s

-- the leave timer of one VID has ended at a place, and where the VID left, it awaits at every other
-- port
abbrev pub left_vlans : ℕ → ℕ → Vlans → Vlans
left_vlans at vid side = flat.left_flat nat_cmp at vid side

-- the LeaveAll timer has fired at a place: the LeaveAll machine is Active, and the timer restarts
-- (10.7.9)
abbrev pub leave_all_vlans : Cs → ℕ → Vlans → Vlans
leave_all_vlans now at side = flat.leave_all_flat now at side

-- every Applicant at a place has taken the periodic event; the periodic timer stays as it is
abbrev pub periodic_vlans : ℕ → Vlans → Vlans
periodic_vlans at side = flat.periodic_flat at side

-- the participant at a place has sent its PDU
abbrev pub sent_vlans : Cs → ℕ → Vlans → Vlans
sent_vlans now at side = flat.sent_flat nat_cmp base octets now at side

-- the participant at a place isn't sound any more, as after the loss of a PDU on its link
abbrev pub spoilt_vlans : ℕ → Vlans → Vlans
spoilt_vlans at side = flat.spoilt_flat at side

-- the VIDs that await at a place are settled by the flat rule, ascending, and none awaits there
abbrev pub settled_vlans : ℕ → Vlans → Vlans
settled_vlans at side = flat.settled_flat nat_cmp at side

-- the application declares a VID or withdraws it; where that changes, the VID awaits at every port
abbrev pub requested_vlans : ℕ → Bool → Vlans → Vlans
requested_vlans vid declared side = flat.requested_flat nat_cmp vid declared side

-- ---- what is kept, and what is written

-- what every side keeps: participants' rows, a set of awaiting VIDs for each, its own VIDs
-- ascending, and that each port's VIDs that don't await are declared there exactly by the flat rule
abbrev pub IsKept : Vlans → Type 0
IsKept side = flat.IsKept nat_cmp side

-- octets in which a PDU is written: they read as it, and fit into a frame
abbrev pub IsWritten : MvrpPdu → List ℕ → Type 0
IsWritten pdu octets = codec.IsWritten vlan_codec pdu octets
