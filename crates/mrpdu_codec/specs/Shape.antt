-- What a PDU that was read looks like, and whether it has LeaveAll (IEEE Std 802.1Q-2018, 10.8.1,
-- 10.8.2).
use Rattle.std.specs.Prelude.{Bool, false, ◌&&◌, ◌||◌, List, length, Option, Some, None, nat_le, nat_lt, ◌==◌, if◌then◌else◌}
use Rattle.std.specs.List.{list_all, list_any, AllByRecursion}
use Rattle.mrpdu_codec.specs.declared.{form.AppForm.AppForm, form.TypeForm.TypeForm, pdu.VectorAttr.VectorAttr, pdu.Message.Message, pdu.Pdu.Pdu}
use Rattle.mrpdu_codec.specs.{Octets.AreOctets, Types.row_of}

-- a parameter from 0 to 3 for each event of a four-packed type, and else none
abbrev pub params_fit : TypeForm → VectorAttr → Bool
params_fit row v =
    if row.four_packed then (length v.params == length v.events) && list_all (λ p. nat_le p 3) v.params
    else length v.params == 0

-- FirstValue has the type's length, and the vector a LeaveAll or an event and at most 8,191 events
abbrev pub vector_fits : TypeForm → VectorAttr → Bool
vector_fits row v =
    (length v.first == row.length)
    && (v.leave_all || nat_lt 0 (length v.events))
    && nat_le (length v.events) 8191
    && params_fit row v

-- vectors of a type with this row of its application's table; a type without a row is none
abbrev pub vectors_fit : Option TypeForm → List VectorAttr → Bool
vectors_fit None vs = false
vectors_fit (Some row) vs = list_all (vector_fits row) vs

-- a Message of a known type whose vectors fit it: each Message that is read has this form
abbrev pub has_form : AppForm → Message → Bool
has_form form m = vectors_fit (row_of form m.kind) m.vectors

-- the FirstValue of each vector consists of octets
abbrev pub HasOctets : Pdu → Type 0
HasOctets pdu = AllByRecursion (λ m. AllByRecursion (λ v. AreOctets v.first) m.vectors) pdu.messages

-- ---- LeaveAll

-- a vector of the Message has it
abbrev pub message_leaves : Message → Bool
message_leaves m = list_any (λ v. v.leave_all) m.vectors

-- A PDU has LeaveAll where any vector has it. It then counts for all attributes of the application.
abbrev pub has_leave_all : Pdu → Bool
has_leave_all pdu = list_any message_leaves pdu.messages
