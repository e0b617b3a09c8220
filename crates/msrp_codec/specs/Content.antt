-- What is declared of a key: its type, its octets, and whether it belongs to the key.
use Rattle.std.specs.Prelude.{◌≡◌, ℕ, List, [], ◌∷◌}
use Rattle.srp_base.specs.declared.{numbers.StreamId.StreamId, streams.ListenerKind.ListenerKind}
use Rattle.srp_base.specs.declared.streams.ListenerKind.TheVariants.{AskingFailed, Ready, ReadyFailed}
use Rattle.msrp_codec.specs.declared.{attribute_type.AttributeType.AttributeType, first_value.FirstValue.FirstValue, pdu.MsrpKey.MsrpKey, pdu.MsrpContent.MsrpContent}
use Rattle.msrp_codec.specs.declared.attribute_type.AttributeType.TheVariants as types
use Rattle.msrp_codec.specs.declared.first_value.FirstValue.TheVariants as firsts
use Rattle.msrp_codec.specs.declared.pdu.MsrpKey.TheVariants as keys
use Rattle.msrp_codec.specs.declared.pdu.MsrpContent.TheVariants.{Advertise, Failed, Listener, Domain}

-- the attribute type that carries it
abbrev pub type_of_content : MsrpContent → AttributeType
type_of_content (Advertise t) = types.Advertise
type_of_content (Failed t f) = types.Failed
type_of_content (Listener kind) = types.Listener
type_of_content (Domain priority vid) = types.Domain

-- a content is of its key
abbrev pub Belongs : MsrpKey → MsrpContent → Type 0
Belongs (keys.Talker stream) (Advertise t) = stream ≡ t.stream
Belongs (keys.Talker stream) (Failed t f) = stream ≡ t.stream
Belongs (keys.Listener stream) (Listener kind) = Unit {0}
Belongs (keys.Domain class) (Domain priority vid) = Unit {0}
Belongs _ _ = ⊥

-- The stated octets of a declaration of this type: those of a vector of it alone, which has a
-- header of 2 octets, FirstValue and one octet of ThreePackedEvents, and for a Listener one of
-- FourPackedEvents.
abbrev pub octets_of_type : AttributeType → ℕ
octets_of_type types.Advertise = 28
octets_of_type types.Failed = 37
octets_of_type types.Listener = 12
octets_of_type types.Domain = 7

-- the stated octets of a declaration with this content, by its type
abbrev pub octets_of : MsrpContent → ℕ
octets_of content = octets_of_type (type_of_content content)

-- The stated octets of an MRPDU without declarations: ProtocolVersion and the EndMark of the PDU,
-- and for each of the four types a Message with the vector of a LeaveAll alone.
abbrev pub base_octets : ℕ
base_octets = 106

-- the stream of a key; a Domain has none
abbrev pub stream_of : MsrpKey → StreamId
stream_of (keys.Talker stream) = stream
stream_of (keys.Listener stream) = stream
stream_of (keys.Domain class) = record { 0 = 0 }

-- the SRclassID of a key; a stream has none
abbrev pub class_of : MsrpKey → ℕ
class_of (keys.Talker stream) = 0
class_of (keys.Listener stream) = 0
class_of (keys.Domain class) = class

-- the FirstValue of a key and a content that belongs to it
abbrev pub value_of : MsrpKey → MsrpContent → FirstValue
value_of key (Advertise t) = firsts.Advertise t
value_of key (Failed t f) = firsts.Failed t f
value_of key (Listener kind) = firsts.Listener (stream_of key)
value_of key (Domain priority vid) = firsts.Domain (class_of key) priority vid

-- the FourPackedEvent of what a Listener declares (35.2.2.7.2)
abbrev pub kind_number : ListenerKind → ℕ
kind_number AskingFailed = 1
kind_number Ready = 2
kind_number ReadyFailed = 3

-- the FourPackedEvents of a vector of a content alone
abbrev pub four_packed_for : MsrpContent → List ℕ
four_packed_for (Advertise t) = []
four_packed_for (Failed t f) = []
four_packed_for (Listener kind) = kind_number kind ∷ []
four_packed_for (Domain priority vid) = []
