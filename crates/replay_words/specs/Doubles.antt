-- Streams of which one PDU declares a Talker Advertise and a Talker Failed. A Talker declares one of
-- them (IEEE Std 802.1Q-2018, 35.2.2.8).
use Rattle.std.specs.Prelude.{ℕ, Bool, true, false, ◌&&◌, if◌then◌else◌, List, [], ◌∷◌, length, filter, flat_map}
use Rattle.srp_base.specs.declared.{numbers.Cs.Cs, numbers.StreamId.StreamId, mrp.MrpEvent.MrpEvent}
use Rattle.srp_base.specs.declared.mrp.MrpEvent.TheVariants.{New, JoinIn, OnlyIn, JoinMt, OnlyMt, Lv}
use Rattle.attribute_propagation.specs.Dirty.{is_awaiting, all_marked}
use Rattle.link_replay.specs.declared.lines.End.{End}
use Rattle.msrp.specs.Part.{stream_cmp}
use Rattle.msrp_codec.specs.declared.pdu.{MsrpKey.MsrpKey, MsrpContent.MsrpContent}
use Rattle.msrp_codec.specs.declared.pdu.MsrpContent.TheVariants.{Advertise, Failed, Listener, Domain}
use Rattle.replay_words.specs.Lines.{double_line}

-- an event of MSRP
abbrev pub StreamEvent : Type 0
StreamEvent = MrpEvent × MsrpKey × MsrpContent

-- whether an event declares its attribute (10.7.5)
abbrev pub is_declaring : MrpEvent → Bool
is_declaring New = true
is_declaring JoinIn = true
is_declaring OnlyIn = false
is_declaring JoinMt = true
is_declaring OnlyMt = false
is_declaring Lv = false

-- the stream that a content advertises
abbrev pub advertised_by : MsrpContent → List StreamId
advertised_by (Advertise t) = t.stream ∷ []
advertised_by (Failed t failure) = []
advertised_by (Listener kind) = []
advertised_by (Domain priority vid) = []

-- the stream that an event advertises
unfoldable pub advertised_in : StreamEvent → List StreamId
advertised_in e = if is_declaring e.0 then advertised_by e.2 else []

-- the streams that the events of a PDU advertise, each once
abbrev pub advertised : List StreamEvent → List StreamId
advertised events = all_marked stream_cmp (flat_map advertised_in events) []

-- whether a content is a Talker Failed of one of some streams
abbrev pub is_failed_of : List StreamId → MsrpContent → Bool
is_failed_of streams (Advertise t) = false
is_failed_of streams (Failed t failure) = is_awaiting stream_cmp t.stream streams
is_failed_of streams (Listener kind) = false
is_failed_of streams (Domain priority vid) = false

-- whether an event declares a Talker Failed of one of some streams
unfoldable pub is_double : List StreamId → StreamEvent → Bool
is_double streams e = is_declaring e.0 && is_failed_of streams e.2

-- what is printed of an event, where these streams are advertised
abbrev pub double_text : Cs → End → List StreamId → StreamEvent → List ℕ
double_text at who streams e = if is_double streams e then double_line at who e.1 else []

-- of the events of a PDU
unfoldable pub doubles_text : Cs → End → List StreamEvent → List ℕ
doubles_text at who events = flat_map (double_text at who (advertised events)) events

-- how many there are
unfoldable pub doubles_count : List StreamEvent → ℕ
doubles_count events = length (filter (is_double (advertised events)) events)
