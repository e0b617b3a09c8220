-- Reading from left to right: each reader answers a value and the octets after it, or how many
-- octets are left from the first field on that breaks. That this is the grammar is proved of
-- `decode`.
use Rattle.std.specs.Prelude.{ℕ, zero, suc, ◌+◌, ◌-◌, ◌%◌, Bool, true, false, List, [], ◌∷◌, ◌++◌, length, take, drop, Option, Some, None, Result, Ok, Err, nat_lt, nat_le, ◌==◌, if◌then◌else◌}
use Rattle.srp_base.specs.Results.{◌>>=◌, Gives}
use Rattle.mrpdu_codec.specs.declared.{error.DecodeErr.DecodeErr, form.AppForm.AppForm, form.TypeForm.TypeForm, pdu.VectorAttr.VectorAttr, pdu.Message.Message, pdu.Pdu.Pdu}
use Rattle.mrpdu_codec.specs.declared.error.DecodeErr.TheVariants as decode_errors
use Rattle.mrpdu_codec.specs.declared.form.AppForm.TheVariants.{Mvrp, Msrp, Mmrp}
use Rattle.mrpdu_codec.specs.{Octets.number, Octets.thirds, Types.row_of, Tree.Vector, Tree.packed_limit, Tree.fours_for, Tree.header_fits, Tree.attr_of, Tree.length_fits, Tree.messages_from}

-- n octets, each at most limit and each a field of its own
unfoldable pub packed_at : ℕ → ℕ → List ℕ → Result (List ℕ × List ℕ) ℕ
packed_at limit zero octets = Ok ([], octets)
packed_at limit (suc n) [] = Err 0
packed_at limit (suc n) (o ∷ rest) = if nat_le o limit then (packed_at limit n rest >>= λ x. Ok (o ∷ x.0, x.1)) else Err (suc (length rest))

-- the two octets of a header
unfoldable pub header_at : Option TypeForm → List ℕ → Result (ℕ × ℕ × List ℕ) ℕ
header_at row [] = Err 0
header_at row (high ∷ []) = Err 1
header_at row (high ∷ low ∷ rest) = if header_fits row high low then Ok (high, low, rest) else Err (suc (suc (length rest)))

-- a FirstValue
unfoldable pub first_at : ℕ → List ℕ → Result (List ℕ × List ℕ) ℕ
first_at len octets = if nat_lt (length octets) len then Err (length octets) else Ok (take len octets, drop len octets)

-- a vector, field by field
unfoldable pub vector_at : Option TypeForm → ℕ → List ℕ → Result (Vector × List ℕ) ℕ
vector_at row len octets = do
  head ← header_at row octets
  first ← first_at len head.2
  packed ← packed_at (packed_limit row) (thirds (number head.0 head.1 % 8192)) first.1
  fours ← packed_at 255 (fours_for row (number head.0 head.1 % 8192)) packed.1
  Ok (record { high = head.0; low = head.1; first = first.0; three_packed = packed.0; four_packed = fours.0 }, fours.1)

-- in a header's place, the octets end or an EndMark stands
unfoldable pub ends_list : List ℕ → Bool
ends_list [] = true
ends_list (a ∷ []) = false
ends_list (a ∷ b ∷ rest) = number a b == 0

-- vectors up to such a place, and at most as many as fuel
unfoldable pub vectors_at : ℕ → Option TypeForm → ℕ → List ℕ → Result (List VectorAttr × List ℕ) ℕ
vectors_at zero row len octets = Ok ([], octets)
vectors_at (suc fuel) row len octets =
    if ends_list octets then Ok ([], octets)
    else (vector_at row len octets >>= λ v. vectors_at fuel row len v.1 >>= λ vs. Ok (attr_of v.0 ∷ vs.0, vs.1))

-- a vector takes at least two octets
unfoldable pub vectors_of : Option TypeForm → ℕ → List ℕ → Result (List VectorAttr × List ℕ) ℕ
vectors_of row len octets = vectors_at (length octets) row len octets

-- an EndMark, or the octets' end in its place
unfoldable pub mark_at : List ℕ → Result (List ℕ) ℕ
mark_at [] = Ok []
mark_at (a ∷ []) = Err 1
mark_at (a ∷ b ∷ rest) = if number a b == 0 then Ok rest else Err (suc (suc (length rest)))

-- vectors up to an EndMark
unfoldable pub list_at : Option TypeForm → ℕ → List ℕ → Result (List VectorAttr × List ℕ) ℕ
list_at row len octets = do
  vs ← vectors_of row len octets
  rest ← mark_at vs.1
  Ok (vs.0, rest)

-- vectors in exactly size octets, of which these are here
unfoldable pub region_at : Option TypeForm → ℕ → ℕ → List ℕ → Result (List VectorAttr) ℕ
region_at row len size octets = do
  vs ← vectors_of row len octets
  if length vs.1 == 0 then (if nat_lt (length octets) size then Err 0 else Ok vs.0) else Err (length vs.1)

-- octets stand behind those that a reader was given
abbrev pub before : {A : Type 0} → ℕ → Result A ℕ → Result A ℕ
before beyond (Ok x) = Ok x
before beyond (Err left) = Err (left + beyond)

-- the region of a known type, and its EndMark
unfoldable pub known_at : TypeForm → ℕ → ℕ → List ℕ → Result (List VectorAttr × List ℕ) ℕ
known_at t len size octets = do
  attrs ← before (length (drop size octets)) (region_at (Some t) len size (take size octets))
  rest ← mark_at (drop size octets)
  Ok (attrs, rest)

-- the octets of an unknown type
unfoldable pub unknown_at : ℕ → List ℕ → Result (List ℕ) ℕ
unknown_at size octets =
    if nat_le (size + 2) (length octets) then Ok (drop (size + 2) octets)
    else (if length octets == size then Ok [] else Err (length octets))

-- the octets of AttributeListLength, and how many it counts without the EndMark
unfoldable pub size_at : List ℕ → Result (ℕ × List ℕ) ℕ
size_at [] = Err 0
size_at (high ∷ []) = Err 1
size_at (high ∷ low ∷ rest) = if nat_lt (number high low) 2 then Err (suc (suc (length rest))) else Ok (number high low - 2, rest)

-- what AttributeListLength counts, and its EndMark
abbrev pub sized_at : Option TypeForm → ℕ → ℕ → List ℕ → Result (List VectorAttr × List ℕ) ℕ
sized_at None len size octets = unknown_at size octets >>= λ rest. Ok ([], rest)
sized_at (Some t) len size octets = known_at t len size octets

-- AttributeListLength, and what it counts
unfoldable pub counted_at : Option TypeForm → ℕ → List ℕ → Result (List VectorAttr × List ℕ) ℕ
counted_at row len octets = do
  size ← size_at octets
  sized_at row len size.0 size.1

-- what stands after AttributeLength
abbrev pub body_at : AppForm → Option TypeForm → ℕ → List ℕ → Result (List VectorAttr × List ℕ) ℕ
body_at Mvrp row len octets = list_at row len octets
body_at Msrp row len octets = counted_at row len octets
body_at Mmrp row len octets = list_at row len octets

-- AttributeLength
unfoldable pub length_at : Option TypeForm → List ℕ → Result (ℕ × List ℕ) ℕ
length_at row [] = Err 0
length_at row (len ∷ rest) = if length_fits row len then Ok (len, rest) else Err (suc (length rest))

-- a Message after its AttributeType
unfoldable pub message_at : AppForm → ℕ → List ℕ → Result (List Message × List ℕ) ℕ
message_at form kind octets = do
  len ← length_at (row_of form kind) octets
  body ← body_at form (row_of form kind) len.0 len.1
  Ok (messages_from (row_of form kind) kind body.0, body.1)

-- behind an octet of 0 in the place of a later Message
unfoldable pub end_at : List ℕ → Result (List Message) ℕ
end_at [] = Err 1
end_at (next ∷ rest) = if next == 0 then Ok [] else Err (suc (suc (length rest)))

-- Messages up to the PDU's EndMark or the octets' end, and at most as many as fuel
unfoldable pub messages_at : ℕ → AppForm → List ℕ → Result (List Message) ℕ
messages_at zero form octets = Ok []
messages_at (suc fuel) form [] = Ok []
messages_at (suc fuel) form (kind ∷ rest) =
    if kind == 0 then end_at rest
    else (message_at form kind rest >>= λ b. messages_at fuel form b.1 >>= λ ms. Ok (b.0 ++ ms))

-- a Message takes at least two octets
unfoldable pub messages_of : AppForm → List ℕ → Result (List Message) ℕ
messages_of form octets = messages_at (length octets) form octets

-- in the place of a later Message: its AttributeType, or none at the PDU's end
unfoldable pub type_at : List ℕ → Result (Option (ℕ × List ℕ)) ℕ
type_at [] = Ok None
type_at (kind ∷ rest) = if kind == 0 then (end_at rest >>= λ none. Ok None) else Ok (Some (kind, rest))

-- ProtocolVersion
unfoldable pub version_at : List ℕ → Result (ℕ × List ℕ) ℕ
version_at [] = Err 0
version_at (version ∷ rest) = Ok (version, rest)

-- in the place of the first Message
unfoldable pub first_type_at : List ℕ → Result (Unit {0}) ℕ
first_type_at [] = Err 0
first_type_at (kind ∷ rest) = if kind == 0 then Err (suc (length rest)) else Ok tt

-- a PDU, or how many octets are left where it breaks
unfoldable pub pdu_at : AppForm → List ℕ → Result Pdu ℕ
pdu_at form octets = do
  version ← version_at octets
  first ← first_type_at version.1
  messages ← messages_of form version.1
  Ok (record { version = version.0; messages = messages })

-- a reading with the place where it breaks, of so many octets
abbrev pub placed_in : ℕ → Result Pdu ℕ → Result Pdu ℕ
placed_in all (Ok pdu) = Ok pdu
placed_in all (Err left) = Err (all - left)

-- The PDU that octets spell, or the place where they break.
unfoldable pub reading : AppForm → List ℕ → Result Pdu ℕ
reading form octets = placed_in (length octets) (pdu_at form octets)

-- the place that a failure tells, which want of memory doesn't
abbrev pub place_told : DecodeErr → Option ℕ
place_told (decode_errors.Malformed place) = Some place
place_told decode_errors.NoMemory = None

-- What `decode` answered is what the octets say, unless memory ran out.
abbrev pub Answers : {A : Type 0} → Result A DecodeErr → Result A ℕ → Type 0
Answers answer read = Gives (λ x. x) place_told answer read
