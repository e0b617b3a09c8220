-- The attributes of the applications of MRP in words, and their lists of messages.
use Rattle.std.specs.Prelude.{ℕ, List, [], ◌++◌, codes}
use Rattle.std.specs.Fmt.{decimal}
use Rattle.srp_base.specs.Hexadecimal.{hex12_text}
use Rattle.flat_side.specs.Part.{said_events}
use Rattle.mrp_participant.specs.State.{Messages}
use Rattle.mmrp_codec.specs.declared.pdu.GroupPdu.{GroupPdu}
use Rattle.msrp_codec.specs.declared.pdu.{MsrpKey.MsrpKey, MsrpContent.MsrpContent, MsrpPdu.MsrpPdu}
use Rattle.mvrp_codec.specs.declared.pdu.MvrpPdu.{MvrpPdu}
use Rattle.replay_words.specs.Replaced.{without_replaced}

-- `vlan 2`
abbrev pub vlan_text : ℕ → List ℕ
vlan_text vid = codes "vlan " ++ decimal vid

-- the stated octets of a PDU of MMRP without groups, and of a group: a vector of it alone (10.12.1)
abbrev pub group_base : ℕ
group_base = 22

abbrev pub group_octets : Unit {0} → ℕ
group_octets _ = 9

-- `group 01005e000001`
abbrev pub group_text : ℕ → List ℕ
group_text mac = codes "group " ++ hex12_text mac

-- VIDs and groups have no content
abbrev pub no_text : Unit {0} → List ℕ
no_text _ = []

-- what a PDU of MVRP says
abbrev pub vlan_messages : MvrpPdu → Messages ℕ (Unit {0})
vlan_messages pdu = record { leave_all = pdu.leave_all; events = said_events pdu.events }

-- of MSRP: of a value that changes what it declares
abbrev pub stream_messages : MsrpPdu → Messages MsrpKey MsrpContent
stream_messages pdu = record { leave_all = pdu.leave_all; events = without_replaced pdu.events }

-- of MMRP
abbrev pub group_messages : GroupPdu → Messages ℕ (Unit {0})
group_messages pdu = record { leave_all = pdu.leave_all; events = said_events pdu.events }
