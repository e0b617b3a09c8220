-- What a PDU says that was read in place, without where its fields lie in memory.
use Rattle.std.specs.Prelude.{Bool, List, [], ◌∷◌, map, Option, Some, None}
use Rattle.mrpdu_codec.specs.declared.{pdu.VectorAttr.VectorAttr, pdu.Message.Message, pdu.Pdu.Pdu, raw.RawVector.RawVector, raw.RawMessage.RawMessage, raw.RawPdu.RawPdu}
use Rattle.mrpdu_codec.specs.Tree.{Vector, attr_of}

-- a vector in place is a node of the syntax tree
abbrev pub vector_in : RawVector → Vector
vector_in raw = record {
  high = raw.high;
  low = raw.low;
  first = raw.first.now;
  three_packed = raw.three_packed.now;
  four_packed = raw.four_packed.now;
}

-- what it says
abbrev pub attr_in : RawVector → VectorAttr
attr_in raw = attr_of (vector_in raw)

-- whether it has a LeaveAllEvent
abbrev pub leaves_in_place : RawVector → Bool
leaves_in_place raw = (attr_in raw).leave_all

-- what vectors say
abbrev pub attrs_in : List RawVector → List VectorAttr
attrs_in raws = map attr_in raws

-- what a Message says
abbrev pub message_in : RawMessage → Message
message_in raw = record { kind = raw.kind; vectors = attrs_in raw.vectors.items }

-- a Message that may be there, as a list
abbrev pub messages_in : Option RawMessage → List Message
messages_in None = []
messages_in (Some raw) = message_in raw ∷ []

-- what a PDU says
abbrev pub pdu_in : RawPdu → Pdu
pdu_in raw = record { version = raw.version; messages = map message_in raw.messages.items }
