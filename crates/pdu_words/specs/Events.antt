-- The lines of what an MRPDU says, one event each (IEEE Std 802.1Q-2018, 10.8.2, 10.12.1, 11.2.3.1,
-- 35.2.2). A line ends with a line feed.
use Rattle.std.specs.Prelude.{ℕ, Bool, true, false, List, [], ◌∷◌, ◌++◌, flat_map, codes}
use Rattle.std.specs.Fmt.{decimal}
use Rattle.srp_base.specs.{Hexadecimal.hex12_text, Hexadecimal.hex16_text, Text.whole_of}
use Rattle.srp_base.specs.declared.{bandwidth.Rank.Rank, bandwidth.Rank.TheVariants.Emergency, bandwidth.Rank.TheVariants.Normal, mrp.MrpEvent.MrpEvent, streams.Failure.Failure, streams.ListenerKind.ListenerKind, streams.Talker.Talker}
use Rattle.srp_base.specs.declared.mrp.MrpEvent.TheVariants.{New, JoinIn, OnlyIn, JoinMt, OnlyMt, Lv}
use Rattle.srp_base.specs.declared.streams.ListenerKind.TheVariants.{AskingFailed, Ready, ReadyFailed}
use Rattle.mmrp_codec.specs.declared.pdu.GroupPdu.{GroupPdu}
use Rattle.mrpdu_codec.specs.declared.form.AppForm.{AppForm}
use Rattle.mrpdu_codec.specs.declared.form.AppForm.TheVariants.{Mvrp, Msrp, Mmrp}
use Rattle.msrp_codec.specs.declared.{pdu.MsrpContent.MsrpContent, pdu.MsrpKey.MsrpKey, pdu.MsrpPdu.MsrpPdu}
use Rattle.msrp_codec.specs.declared.pdu.MsrpContent.TheVariants.{Advertise, Failed, Listener, Domain}
use Rattle.msrp_codec.specs.declared.pdu.MsrpKey.TheVariants as keys
use Rattle.mvrp_codec.specs.declared.pdu.MvrpPdu.{MvrpPdu}

-- ---- words

-- an attribute event by its name
abbrev pub event_name : MrpEvent → List ℕ
event_name New = codes "new"
event_name JoinIn = codes "joinin"
event_name OnlyIn = codes "in"
event_name JoinMt = codes "joinmt"
event_name OnlyMt = codes "mt"
event_name Lv = codes "lv"

-- what a Listener declares, by its FourPackedEvent (35.2.2.7.2)
abbrev pub kind_name : ListenerKind → List ℕ
kind_name AskingFailed = codes "asking-failed"
kind_name Ready = codes "ready"
kind_name ReadyFailed = codes "ready-failed"

-- the Rank bit (35.2.2.8.5)
abbrev pub rank_digit : Rank → List ℕ
rank_digit Emergency = codes "0"
rank_digit Normal = codes "1"

-- what a test says, as a word
abbrev pub yes_or_no : Bool → List ℕ
yes_or_no true = codes "yes"
yes_or_no false = codes "no"

-- an application by its name
abbrev pub app_name : AppForm → List ℕ
app_name Mvrp = codes "mvrp"
app_name Msrp = codes "msrp"
app_name Mmrp = codes "mmrp"

-- ---- lines

-- `joinmt vid 5`
abbrev pub vid_line : MrpEvent × ℕ → List ℕ
vid_line x = whole_of (event_name x.0 ∷ codes " vid " ∷ decimal x.1 ∷ codes "\n" ∷ [])

-- `joinmt mac 01005e000001`
abbrev pub mac_line : MrpEvent × ℕ → List ℕ
mac_line x = whole_of (event_name x.0 ∷ codes " mac " ∷ hex12_text x.1 ∷ codes "\n" ∷ [])

-- where the stream's frames go, and their VID
abbrev pub address_text : Talker → List ℕ
address_text t = whole_of (codes " dest " ∷ hex12_text t.dest ∷ codes " vid " ∷ decimal t.vid ∷ [])

-- how large they are at most, how many come in a class measurement interval at most, and their
-- priority and rank
abbrev pub traffic_text : Talker → List ℕ
traffic_text t = whole_of (
    codes " octets " ∷ decimal t.max_frame ∷ codes " frames " ∷ decimal t.frames
    ∷ codes " priority " ∷ decimal t.priority ∷ codes " rank " ∷ rank_digit t.rank ∷ [])

-- what a Talker declares of its frames, and the latency in ns
abbrev pub talker_text : Talker → List ℕ
talker_text t = whole_of (address_text t ∷ traffic_text t ∷ codes " latency " ∷ decimal t.latency ∷ [])

-- why it failed, and where
abbrev pub failure_text : Failure → List ℕ
failure_text failure = whole_of (
    codes " failed bridge " ∷ hex16_text failure.bridge.0 ∷ codes " code " ∷ decimal failure.code ∷ [])

-- of what a declaration is
abbrev pub key_text : MsrpKey → List ℕ
key_text (keys.Talker stream) = codes "talker " ++ hex16_text stream.0
key_text (keys.Listener stream) = codes "listener " ++ hex16_text stream.0
key_text (keys.Domain class) = codes "domain " ++ decimal class

-- what it declares, with a blank in front
abbrev pub content_text : MsrpContent → List ℕ
content_text (Advertise t) = codes " advertise" ++ talker_text t
content_text (Failed t failure) = failure_text failure ++ talker_text t
content_text (Listener kind) = codes " " ++ kind_name kind
content_text (Domain priority vid) = whole_of (codes " priority " ∷ decimal priority ∷ codes " vid " ∷ decimal vid ∷ [])

-- `joinmt talker ID advertise ..`, `joinmt talker ID failed bridge B code C ..`,
-- `joinmt listener ID ready` or `joinmt domain 6 priority 3 vid 2`
abbrev pub declaration_line : MrpEvent × MsrpKey × MsrpContent → List ℕ
declaration_line x = whole_of (event_name x.0 ∷ codes " " ∷ key_text x.1 ∷ content_text x.2 ∷ codes "\n" ∷ [])

-- ---- PDUs; in front of what each says stands where it was found

-- ` leaveall yes` or ` leaveall no`
abbrev pub leaveall_text : Bool → List ℕ
leaveall_text leave_all = whole_of (codes " leaveall " ∷ yes_or_no leave_all ∷ codes "\n" ∷ [])

-- ` malformed P`, P being the offset in octets, from 0, at which it breaks
abbrev pub malformed_text : ℕ → List ℕ
malformed_text place = whole_of (codes " malformed " ∷ decimal place ∷ codes "\n" ∷ [])

-- ` no octets`: a text isn't octets in hexadecimal digits, two an octet
abbrev pub no_octets_text : List ℕ
no_octets_text = codes " no octets\n"

-- the one line of a file that is no text of octets
abbrev pub no_text_line : List ℕ
no_text_line = codes "no text of octets\n"

-- what a PDU of MVRP says
abbrev pub vlan_lines : MvrpPdu → List ℕ
vlan_lines pdu = leaveall_text pdu.leave_all ++ flat_map vid_line pdu.events

-- what a PDU of MSRP says
abbrev pub stream_lines : MsrpPdu → List ℕ
stream_lines pdu = leaveall_text pdu.leave_all ++ flat_map declaration_line pdu.events

-- what a PDU of MMRP says
abbrev pub group_lines : GroupPdu → List ℕ
group_lines pdu = leaveall_text pdu.leave_all ++ flat_map mac_line pdu.events
