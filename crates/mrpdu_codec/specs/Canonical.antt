-- The one spelling in which a PDU is written (IEEE Std 802.1Q-2018, 10.8.1.2): every EndMark
-- stands, and places past the last value are 0.
use Rattle.std.specs.Prelude.{◌≡◌, ℕ, ◌+◌, ◌*◌, ◌/◌, ◌%◌, ◌≤◌, Bool, true, ◌&&◌, List, [], ◌∷◌, length, map, Option, Some, None, nat_le, nat_lt, ◌==◌, if◌then◌else◌}
use Rattle.std.specs.List.{list_all, sum_by}
use Rattle.srp_base.specs.declared.{mrp.MrpEvent.MrpEvent, mrp.MrpEvent.TheVariants.New}
use Rattle.mrpdu_codec.specs.declared.{form.AppForm.AppForm, form.TypeForm.TypeForm, pdu.VectorAttr.VectorAttr, pdu.Message.Message, pdu.Pdu.Pdu}
use Rattle.mrpdu_codec.specs.declared.form.AppForm.TheVariants.{Mvrp, Msrp, Mmrp}
use Rattle.mrpdu_codec.specs.{Octets.event_number, Octets.thirds, Octets.quarters, Types.row_of, Shape.has_form, Tree.Vector, Tree.vector_octets, Tree.vectors_octets, Tree.MessageTree, Tree.MrpduTree, Tree.tree_octets, Tree.AttributeList.Vectors}

-- a number below 65,536 in two octets, the high one first
abbrev pub two_octets : ℕ → List ℕ
two_octets n = n / 256 ∷ n % 256 ∷ []

-- three events in an octet
abbrev pub three : MrpEvent → MrpEvent → MrpEvent → ℕ
three a b c = (event_number a * 6 + event_number b) * 6 + event_number c

-- events, in as few octets; places past the last are New, which is 0
abbrev pub pack_events : List MrpEvent → List ℕ
pack_events [] = []
pack_events (a ∷ []) = three a New New ∷ []
pack_events (a ∷ b ∷ []) = three a b New ∷ []
pack_events (a ∷ b ∷ c ∷ events) = three a b c ∷ pack_events events

-- four parameters in an octet
abbrev pub four : ℕ → ℕ → ℕ → ℕ → ℕ
four a b c d = a * 64 + b * 16 + c * 4 + d

-- parameters, in as few octets; places past the last are 0
abbrev pub pack_params : List ℕ → List ℕ
pack_params [] = []
pack_params (a ∷ []) = four a 0 0 0 ∷ []
pack_params (a ∷ b ∷ []) = four a b 0 0 ∷ []
pack_params (a ∷ b ∷ c ∷ []) = four a b c 0 ∷ []
pack_params (a ∷ b ∷ c ∷ d ∷ params) = four a b c d ∷ pack_params params

-- LeaveAllEvent * 8,192 + NumberOfValues
abbrev pub header_for : VectorAttr → ℕ
header_for v = (if v.leave_all then 8192 else 0) + length v.events

-- a vector with its octets
abbrev pub vector_for : VectorAttr → Vector
vector_for v = record {
  high = header_for v / 256;
  low = header_for v % 256;
  first = v.first;
  three_packed = pack_events v.events;
  four_packed = pack_params v.params;
}

-- the octets of a vector that has these parts
abbrev pub octets_for : Bool → List ℕ → List MrpEvent → List ℕ → List ℕ
octets_for leave first events params =
    vector_octets (vector_for (record { leave_all = leave; first = first; events = events; params = params }))

-- an AttributeList
abbrev pub vectors_for : List VectorAttr → List Vector
vectors_for vs = map vector_for vs

-- AttributeListLength, which MSRP alone has, counts the EndMark too
abbrev pub list_length_for : AppForm → List VectorAttr → List ℕ
list_length_for Mvrp vs = []
list_length_for Msrp vs = two_octets (length (vectors_octets (vectors_for vs)) + 2)
list_length_for Mmrp vs = []

-- AttributeLength is the type's; a type that isn't known has none, and can't be written
abbrev pub length_for : Option TypeForm → ℕ
length_for None = 0
length_for (Some row) = row.length

-- a Message with its octets, and its EndMark
abbrev pub message_for : AppForm → Message → MessageTree
message_for form m = record {
  kind = m.kind;
  len = length_for (row_of form m.kind);
  list_length = list_length_for form m.vectors;
  list = Vectors (vectors_for m.vectors);
  end_mark = 0 ∷ 0 ∷ [];
}

-- a PDU with its EndMark, and no octets after it
abbrev pub tree_for : AppForm → Pdu → MrpduTree
tree_for form pdu = record { version = pdu.version; messages = map (message_for form) pdu.messages; after = Some [] }

-- the octets in which a PDU is written
abbrev pub spelling : AppForm → Pdu → List ℕ
spelling form pdu = tree_octets (tree_for form pdu)

-- ---- In how many octets

-- the header takes 2 octets
abbrev pub vector_size : VectorAttr → ℕ
vector_size v = 2 + length v.first + thirds (length v.events) + quarters (length v.params)

-- an AttributeList
abbrev pub vectors_size : List VectorAttr → ℕ
vectors_size vs = sum_by vector_size vs

-- AttributeType, AttributeLength and the EndMark take 4 octets, and AttributeListLength 2
abbrev pub fixed_size : AppForm → ℕ
fixed_size Mvrp = 4
fixed_size Msrp = 6
fixed_size Mmrp = 4

-- a Message
abbrev pub message_size : AppForm → Message → ℕ
message_size form m = fixed_size form + vectors_size m.vectors

-- ProtocolVersion and the PDU's EndMark take 3 octets
abbrev pub pdu_size : AppForm → Pdu → ℕ
pdu_size form pdu = 3 + sum_by (message_size form) pdu.messages

-- ---- What can be written

-- AttributeListLength has two octets
abbrev pub list_fits : AppForm → List VectorAttr → Bool
list_fits Mvrp vs = true
list_fits Msrp vs = nat_le (length (vectors_octets (vectors_for vs)) + 2) 65535
list_fits Mmrp vs = true

-- a Message that can be written
abbrev pub message_fits : AppForm → Message → Bool
message_fits form m = has_form form m && list_fits form m.vectors

-- version 0, and one or more Messages
abbrev pub well_formed : AppForm → Pdu → Bool
well_formed form pdu =
    (pdu.version == 0) && nat_lt 0 (length pdu.messages) && list_all (message_fits form) pdu.messages

-- what the octets of a vector can hold, of whatever type it is
pub record CanPut (v : VectorAttr) : Type 0 where
  pub events : length v.events ≤ 8191
  pub params : list_all (λ p. nat_le p 3) v.params ≡ true
