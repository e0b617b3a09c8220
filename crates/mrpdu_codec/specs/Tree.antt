-- The syntax tree of an MRPDU (IEEE Std 802.1Q-2018, 10.8.1.2): what a PDU's octets are, field by
-- field, also what the PDU forgets: the octets of a vector's header, padding places, Messages of
-- unknown types, missing EndMarks, and what stands after the PDU's EndMark. Each node has its
-- rules, its spelling and its meaning.
use Rattle.std.specs.Prelude.{◌≡◌, ℕ, ◌+◌, ◌/◌, ◌%◌, ◌<◌, ◌≤◌, Bool, true, List, [], ◌∷◌, ◌++◌, length, take, map, Option, Some, None, nat_le, nat_lt, ◌==◌, if◌then◌else◌, ◌⊎◌}
use Rattle.std.specs.List.{flat_map, AllByRecursion}
use Rattle.mrpdu_codec.specs.declared.{form.AppForm.AppForm, form.TypeForm.TypeForm, pdu.VectorAttr.VectorAttr, pdu.Message.Message, pdu.Pdu.Pdu}
use Rattle.mrpdu_codec.specs.declared.form.AppForm.TheVariants.{Mvrp, Msrp, Mmrp}
use Rattle.mrpdu_codec.specs.{Octets.number, Octets.thirds, Octets.quarters, Octets.three_events, Octets.four_params, Types.row_of}

-- ---- a vector

-- a VectorAttribute: the two octets of its header, FirstValue, ThreePackedEvents, FourPackedEvents
pub record Vector : Type 0 where
  pub high : ℕ
  pub low : ℕ
  pub first : List ℕ
  pub three_packed : List ℕ
  pub four_packed : List ℕ

-- the header is LeaveAllEvent * 8,192 + NumberOfValues
abbrev pub header : Vector → ℕ
header v = number v.high v.low

-- NumberOfValues
abbrev pub count : Vector → ℕ
count v = header v % 8192

-- The rules of a type's fields. A type that its application doesn't know (no row) is skipped with
-- any LeaveAllEvent and any packed octets.
abbrev pub leave_all_limit : Option TypeForm → ℕ
leave_all_limit None = 7
leave_all_limit (Some t) = 1

-- an octet holds three events, and each is at most 5
abbrev pub packed_limit : Option TypeForm → ℕ
packed_limit None = 255
packed_limit (Some t) = 215

-- how many FourPackedEvents n values take
abbrev pub fours_for : Option TypeForm → ℕ → ℕ
fours_for None n = 0
fours_for (Some t) n = if t.four_packed then quarters n else 0

-- the header has a LeaveAllEvent that is allowed
abbrev pub header_fits : Option TypeForm → ℕ → ℕ → Bool
header_fits row high low = nat_le (number high low / 8192) (leave_all_limit row)

-- each octet is at most this
abbrev pub AllUpTo : ℕ → List ℕ → Type 0
AllUpTo limit octets = AllByRecursion (λ o. o ≤ limit) octets

-- A vector whose fields are whole and meet their rules, where FirstValue has len octets. A header
-- of 0 is an EndMark, and no vector's.
pub record IsVector (row : Option TypeForm) (len : ℕ) (v : Vector) : Type 0 where
  pub no_mark : 0 < header v
  pub leave_all : header_fits row v.high v.low ≡ true
  pub first : length v.first ≡ len
  pub three_packed : length v.three_packed ≡ thirds (count v)
  pub events : AllUpTo (packed_limit row) v.three_packed
  pub four_packed : length v.four_packed ≡ fours_for row (count v)
  pub params : AllUpTo 255 v.four_packed

-- the octets of a vector
abbrev pub vector_octets : Vector → List ℕ
vector_octets v = v.high ∷ v.low ∷ (v.first ++ (v.three_packed ++ v.four_packed))

-- the octets of vectors, one after another
abbrev pub vectors_octets : List Vector → List ℕ
vectors_octets vs = flat_map vector_octets vs

-- what a vector says: of its packed octets as many places as there are values
abbrev pub attr_of : Vector → VectorAttr
attr_of v = record {
  leave_all = nat_lt 0 (header v / 8192);
  first = v.first;
  events = take (count v) (flat_map three_events v.three_packed);
  params = take (count v) (flat_map four_params v.four_packed);
}

-- ---- a Message

-- what stands between AttributeLength and the EndMark: vectors, or octets that MSRP skips
pub data AttributeList : Type 0 where
  Vectors : List Vector → AttributeList
  Skipped : List ℕ → AttributeList

-- A Message: AttributeType, AttributeLength, in MSRP the two octets of AttributeListLength, its
-- list, and its EndMark, which is missing where the octets end instead.
pub record MessageTree : Type 0 where
  pub kind : ℕ
  pub len : ℕ
  pub list_length : List ℕ
  pub list : AttributeList
  pub end_mark : List ℕ

-- the octets of an AttributeList
abbrev pub list_octets : AttributeList → List ℕ
list_octets (Vectors vs) = vectors_octets vs
list_octets (Skipped octets) = octets

-- the octets of a Message
abbrev pub message_octets : MessageTree → List ℕ
message_octets b = b.kind ∷ b.len ∷ (b.list_length ++ (list_octets b.list ++ b.end_mark))

-- AttributeLength is the type's, and 0 for none
abbrev pub length_fits : Option TypeForm → ℕ → Bool
length_fits None len = nat_lt 0 len
length_fits (Some t) len = len == t.length

-- two octets of 0, or none where the octets end
abbrev pub IsEndMark : List ℕ → Type 0
IsEndMark end_mark = (end_mark ≡ []) ⊎ (end_mark ≡ 0 ∷ 0 ∷ [])

-- AttributeListLength counts the list and an EndMark, whether or not that is there
abbrev pub CountsList : List ℕ → AttributeList → Type 0
CountsList (high ∷ low ∷ []) list = number high low ≡ length (list_octets list) + 2
CountsList _ list = ⊥

-- vectors that meet their rules
abbrev pub AreVectors : Option TypeForm → ℕ → List Vector → Type 0
AreVectors row len vs = AllByRecursion (IsVector row len) vs

-- What stands after AttributeLength. MSRP's lists are counted, so that an unknown type is skipped
-- whole; the two octets that close it there may be any.
abbrev pub IsBody : AppForm → Option TypeForm → ℕ → List ℕ → AttributeList → List ℕ → Type 0
IsBody Msrp (Some row) len list_length (Vectors vs) end_mark =
    CountsList list_length (Vectors vs) × AreVectors (Some row) len vs × IsEndMark end_mark
IsBody Msrp None len list_length (Skipped octets) end_mark =
    CountsList list_length (Skipped octets) × ((end_mark ≡ []) ⊎ (length end_mark ≡ 2))
IsBody Mvrp row len list_length (Vectors vs) end_mark =
    (list_length ≡ []) × AreVectors row len vs × IsEndMark end_mark
IsBody Mmrp row len list_length (Vectors vs) end_mark =
    (list_length ≡ []) × AreVectors row len vs × IsEndMark end_mark
IsBody _ _ len list_length _ end_mark = ⊥

-- an AttributeType of 0 is none
pub record IsMessage (form : AppForm) (b : MessageTree) : Type 0 where
  pub kind : 0 < b.kind
  pub len : length_fits (row_of form b.kind) b.len ≡ true
  pub body : IsBody form (row_of form b.kind) b.len b.list_length b.list b.end_mark

-- what an AttributeList says
abbrev pub list_attrs : AttributeList → List VectorAttr
list_attrs (Vectors vs) = map attr_of vs
list_attrs (Skipped octets) = []

-- a Message of a type that its application doesn't know says nothing
abbrev pub messages_from : Option TypeForm → ℕ → List VectorAttr → List Message
messages_from None kind attrs = []
messages_from (Some t) kind attrs = record { kind = kind; vectors = attrs } ∷ []

-- what a Message says
abbrev pub messages_meant : AppForm → MessageTree → List Message
messages_meant form b = messages_from (row_of form b.kind) b.kind (list_attrs b.list)

-- ---- a PDU

-- ProtocolVersion, the Messages, and what stands after the PDU's EndMark, where that is there
pub record MrpduTree : Type 0 where
  pub version : ℕ
  pub messages : List MessageTree
  pub after : Option (List ℕ)

-- A Message whose EndMark is missing is the last, and the octets end after it.
abbrev pub AreMessages : AppForm → List MessageTree → Option (List ℕ) → Type 0
AreMessages form [] after = Unit {0}
AreMessages form (b ∷ bs) after =
    IsMessage form b × (b.end_mark ≡ [] → (bs ≡ []) × (after ≡ None)) × AreMessages form bs after

-- the PDU's EndMark and what stands after it
abbrev pub after_octets : Option (List ℕ) → List ℕ
after_octets None = []
after_octets (Some rest) = 0 ∷ 0 ∷ rest

-- the octets of Messages, one after another
abbrev pub messages_octets : List MessageTree → List ℕ
messages_octets bs = flat_map message_octets bs

-- the octets of a PDU
abbrev pub tree_octets : MrpduTree → List ℕ
tree_octets tree = tree.version ∷ (messages_octets tree.messages ++ after_octets tree.after)

-- any version, and one or more Messages
pub record IsPduTree (form : AppForm) (tree : MrpduTree) : Type 0 where
  pub some : 0 < length tree.messages
  pub messages : AreMessages form tree.messages tree.after

-- what a PDU says
abbrev pub pdu_of : AppForm → MrpduTree → Pdu
pdu_of form tree = record { version = tree.version; messages = flat_map (messages_meant form) tree.messages }
