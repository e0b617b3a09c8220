-- The lines of a network of streams, beside those that every report has, each by what it tells. A
-- line ends with a line feed.
use Rattle.std.specs.Prelude.{ℕ, Bool, if◌then◌else◌, List, [], ◌∷◌, ◌++◌, codes, Option, Some, None}
use Rattle.std.specs.Fmt.{decimal}
use Rattle.srp_base.specs.{Hexadecimal.hex16_text, Text.whole_of}
use Rattle.srp_base.specs.declared.{numbers.Cs.Cs, numbers.StreamId.StreamId, streams.Failure.Failure, streams.ListenerKind.ListenerKind}
use Rattle.srp_base.specs.declared.streams.ListenerKind.TheVariants.{AskingFailed, Ready, ReadyFailed}
use Rattle.stream_importance.specs.declared.{entry.Entry.Entry, entry.Want.Want}
use Rattle.msrp_codec.specs.declared.{pdu.MsrpKey.MsrpKey, pdu.MsrpContent.MsrpContent}
use Rattle.msrp_codec.specs.declared.pdu.MsrpKey.TheVariants as keys
use Rattle.msrp_codec.specs.declared.pdu.MsrpContent.TheVariants.{Advertise, Failed, Listener, Domain}
use Rattle.registrar.specs.declared.Registrar.{Registrar}
use Rattle.report_words.specs.Words.{class_name, state_name}

-- what a Listener declares, by its FourPackedEvent (IEEE Std 802.1Q-2018, 35.2.2.7.2)
abbrev pub kind_name : ListenerKind → List ℕ
kind_name AskingFailed = codes "asking-failed"
kind_name Ready = codes "ready"
kind_name ReadyFailed = codes "ready-failed"

-- what a listening application hears; nothing where no Talker is registered at its port
abbrev pub heard_name : Option ListenerKind → List ℕ
heard_name None = codes "nothing"
heard_name (Some kind) = kind_name kind

-- ---- the lines

-- `vlan P V S`
abbrev pub vlan_line : List ℕ → ℕ → Registrar → List ℕ
vlan_line port vid state = whole_of (
    codes "vlan " ∷ port ∷ codes " " ∷ decimal vid ∷ codes " " ∷ state_name state ∷ codes "\n" ∷ [])

-- how the line of a Talker begins: the port and the stream
abbrev pub talker_start : List ℕ → StreamId → List ℕ
talker_start port stream = codes "talker " ++ port ++ codes " " ++ hex16_text stream.0

-- how the line of a Talker Failed goes on: the bridge where the Talker failed, and the failure code
abbrev pub failure_text : Failure → List ℕ
failure_text failure = whole_of (
    codes " failed bridge " ∷ hex16_text failure.bridge.0 ∷ codes " code " ∷ decimal failure.code ∷ codes " latency " ∷ [])

-- how the line of a Talker ends: the accumulated latency in ns, and the state of the Registrar
abbrev pub talker_end : ℕ → Registrar → List ℕ
talker_end latency state = whole_of (decimal latency ∷ codes " " ∷ state_name state ∷ codes "\n" ∷ [])

-- `talker P ID advertise latency L S`, or `talker P ID failed bridge B code C latency L S`; of a
-- Talker nothing but what a Talker declares is registered, so that the last case doesn't occur
abbrev pub talker_line : List ℕ → StreamId → Option MsrpContent → Registrar → List ℕ
talker_line port stream (Some (Advertise talker)) state =
    talker_start port stream ++ codes " advertise latency " ++ talker_end talker.latency state
talker_line port stream (Some (Failed talker failure)) state =
    talker_start port stream ++ failure_text failure ++ talker_end talker.latency state
talker_line port stream _ state = []

-- `listener P ID K S`; of Listeners nothing but what a Listener declares is registered, as above
abbrev pub listener_line : List ℕ → StreamId → Option MsrpContent → Registrar → List ℕ
listener_line port stream (Some (Listener kind)) state = whole_of (
    codes "listener " ∷ port ∷ codes " " ∷ hex16_text stream.0 ∷ codes " " ∷ kind_name kind
    ∷ codes " " ∷ state_name state ∷ codes "\n" ∷ [])
listener_line port stream _ state = []

-- `domain P C priority Q vid V S`, with the SRclassID C; of Domains nothing but a Domain's value is
-- registered, as above
abbrev pub domain_line : List ℕ → ℕ → Option MsrpContent → Registrar → List ℕ
domain_line port class (Some (Domain priority vid)) state = whole_of (
    codes "domain " ∷ port ∷ codes " " ∷ decimal class ∷ codes " priority " ∷ decimal priority ∷ codes " vid " ∷ decimal vid
    ∷ codes " " ∷ state_name state ∷ codes "\n" ∷ [])
domain_line port class _ state = []

-- the line of an attribute of MSRP that is registered with this content; where the scenario has no
-- SRP domains a Domain has none
abbrev pub srp_line : Bool → List ℕ → MsrpKey → Option MsrpContent → Registrar → List ℕ
srp_line domains port (keys.Talker stream) content state = talker_line port stream content state
srp_line domains port (keys.Listener stream) content state = listener_line port stream content state
srp_line domains port (keys.Domain class) content state = if domains then domain_line port class content state else []

-- `booked P ID A slope S since T`, or with `B`; S in bit/s and T in cs; what is booked has a moment
abbrev pub want_line : List ℕ → Want → Option Cs → List ℕ
want_line port want None = []
want_line port want (Some since) = whole_of (
    codes "booked " ∷ port ∷ codes " " ∷ hex16_text want.stream.0 ∷ codes " " ∷ class_name want.class
    ∷ codes " slope " ∷ decimal want.slope ∷ codes " since " ∷ decimal since.0 ∷ codes "\n" ∷ [])

-- the line of a ledger's entry; one that isn't booked has none
abbrev pub booked_line : List ℕ → Entry → List ℕ
booked_line port x = want_line port x.want x.since

-- `heard X ID ready`, `heard X ID asking-failed` or `heard X ID nothing`
abbrev pub heard_line : List ℕ → StreamId → Option ListenerKind → List ℕ
heard_line name stream heard = whole_of (
    codes "heard " ∷ name ∷ codes " " ∷ hex16_text stream.0 ∷ codes " " ∷ heard_name heard ∷ codes "\n" ∷ [])
