-- A capture of PDUs, in lines or in hex dumps, to what each says, by the reading of its application's
-- codec.
use Rattle.std.specs.Prelude.{ℕ, ◌+◌, Bool, true, false, nat_eq, if◌then◌else◌, List, [], ◌∷◌, ◌++◌, length, codes, Option, Some, None, Result, Ok, Err}
use Rattle.std.specs.{Fmt.decimal, List.starts_with}
use Rattle.capture_file.specs.declared.setting.LinkType.TheVariants.{Ethernet}
use Rattle.capture_file.specs.Packets.{Packet}
use Rattle.mrp_frames.specs.Frames.{Seen, frame_in}
use Rattle.srp_base.specs.Text.{whole_of}
use Rattle.mmrp_codec.specs.Meaning.{mmrp_reading}
use Rattle.mmrp_codec.specs.declared.pdu.GroupPdu.{GroupPdu}
use Rattle.mrpdu_codec.specs.declared.form.AppForm.{AppForm}
use Rattle.mrpdu_codec.specs.declared.form.AppForm.TheVariants.{Mvrp, Msrp, Mmrp}
use Rattle.msrp_codec.specs.Meaning.{msrp_reading}
use Rattle.msrp_codec.specs.declared.pdu.MsrpPdu.{MsrpPdu}
use Rattle.mvrp_codec.specs.Meaning.{mvrp_reading}
use Rattle.mvrp_codec.specs.declared.pdu.MvrpPdu.{MvrpPdu}
use Rattle.pdu_words.specs.{Capture.lines_of, Capture.octets_in, Capture.is_passed_over, Dump.DumpPart, Dump.part_at, Dump.due_behind, Dump.gathered, TextFile.is_no_text, Events.vlan_lines, Events.stream_lines, Events.group_lines, Events.malformed_text, Events.no_octets_text, Events.no_text_line}

-- what octets say of VIDs, or where they break
abbrev pub vlans_said : Result MvrpPdu ℕ → List ℕ
vlans_said (Ok pdu) = vlan_lines pdu
vlans_said (Err place) = malformed_text place

-- what octets say of streams and Domains, or where they break
abbrev pub streams_said : Result MsrpPdu ℕ → List ℕ
streams_said (Ok pdu) = stream_lines pdu
streams_said (Err place) = malformed_text place

-- what octets say of groups, or where they break
abbrev pub groups_said : Result GroupPdu ℕ → List ℕ
groups_said (Ok pdu) = group_lines pdu
groups_said (Err place) = malformed_text place

-- what octets say, as a PDU of this application
abbrev pub octets_said : AppForm → List ℕ → List ℕ
octets_said Mvrp octets = vlans_said (mvrp_reading octets)
octets_said Msrp octets = streams_said (msrp_reading octets)
octets_said Mmrp octets = groups_said (mmrp_reading octets)

-- `line N`: where the PDU was found in a text
abbrev pub line_front : ℕ → List ℕ
line_front n = whole_of (codes "line " ∷ decimal n ∷ [])

-- what the octets of a line say, if it has octets
abbrev pub octets_at : AppForm → ℕ → Option (List ℕ) → List ℕ
octets_at form n (Some octets) = line_front n ++ octets_said form octets
octets_at form n None = line_front n ++ no_octets_text

-- what the PDU in a line of this number says; an empty line and a remark say nothing
abbrev pub line_said : AppForm → ℕ → List ℕ → List ℕ
line_said form n line = if is_passed_over line then [] else octets_at form n (octets_in line)

-- ---- hex dumps

-- whether two applications are one
abbrev pub is_same_app : AppForm → AppForm → Bool
is_same_app Mvrp Mvrp = true
is_same_app Msrp Msrp = true
is_same_app Mmrp Mmrp = true
is_same_app _ _ = false

-- the octets with which the group addresses of MRP begin (IEEE Std 802.1Q-2018, Tables 8-1, 10-1)
abbrev pub group_front : List ℕ
group_front = 0x01 ∷ 0x80 ∷ 0xc2 ∷ []

-- octets as a whole frame of Ethernet
abbrev pub frame_of_octets : List ℕ → Packet
frame_of_octets octets = record { link = Ethernet; at_ns = 0; whole = length octets; octets = octets }

-- the PDU of a frame of this application, else the octets themselves
abbrev pub pdu_seen : AppForm → List ℕ → Option Seen → List ℕ
pdu_seen form octets None = octets
pdu_seen form octets (Some seen) = if is_same_app seen.app form then seen.pdu else octets

-- The PDU in the octets of a dump: where they are a whole frame of Ethernet to a group address of
-- MRP, it stands behind the EtherType.
abbrev pub pdu_of_dump : AppForm → List ℕ → List ℕ
pdu_of_dump form octets = if starts_with nat_eq octets group_front then pdu_seen form octets (frame_in (frame_of_octets octets)) else octets

-- what the PDU in a dump says that begins in a line of this number
abbrev pub dump_said : AppForm → ℕ → List ℕ → List ℕ
dump_said form n octets = line_front n ++ octets_said form (pdu_of_dump form octets)

-- ---- a text

-- what is said at a line of this number: of a dump at its first line, of any other line at itself
abbrev pub said_at : AppForm → ℕ → DumpPart → List ℕ → List (List ℕ) → List ℕ
said_at form n (DumpPart.First octets) line lines = dump_said form n (octets ++ gathered (length octets) lines)
said_at form n (DumpPart.Next octets) line lines = []
said_at form n DumpPart.Apart line lines = line_said form n line

-- the same of some lines, of which the first has number n and stands behind so many octets of a dump
abbrev pub lines_said : AppForm → ℕ → ℕ → List (List ℕ) → List ℕ
lines_said form n due [] = []
lines_said form n due (line ∷ lines) =
    said_at form n (part_at due line) line lines ++ lines_said form (n + 1) (due_behind due (part_at due line)) lines

-- what a capture of PDUs of an application says; a file that is no text of octets has one line
abbrev pub decoded_text : AppForm → List ℕ → List ℕ
decoded_text form capture = if is_no_text capture then no_text_line else lines_said form 1 0 (lines_of capture)

-- ---- lines that are taken one after another

-- what a dump says that is at its end, if one began in a line
abbrev pub ended_said : AppForm → Option ℕ → List ℕ → List ℕ
ended_said form None octets = []
ended_said form (Some first) octets = dump_said form first octets

-- What is left to say at a line: of a dump that began in an earlier one, if one did, with these
-- octets so far, and of the lines from here on.
abbrev pub left_said : AppForm → Option ℕ → List ℕ → ℕ → List (List ℕ) → List ℕ
left_said form first octets n lines = ended_said form first (octets ++ gathered (length octets) lines) ++ lines_said form n (length octets) lines
