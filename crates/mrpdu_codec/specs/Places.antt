-- Where the FirstValues of a PDU stand in its octets (IEEE Std 802.1Q-2018, 10.8.1.2): an offset,
-- in octets from 0, for each vector of each Message of a known type, in order. Once by the syntax
-- tree, and once by the octets alone; that both are the same is the law `first_values_have_places`.
use Rattle.std.specs.Prelude.{◌≡◌, ℕ, zero, suc, ◌+◌, ◌-◌, ◌%◌, List, [], ◌∷◌, ◌++◌, length, take, drop, slice_get, Option, Some, None, ◌==◌, if◌then◌else◌}
use Rattle.std.specs.Option.{option_and_then}
use Rattle.mrpdu_codec.specs.declared.{form.AppForm.AppForm, form.TypeForm.TypeForm, pdu.VectorAttr.VectorAttr, pdu.Message.Message}
use Rattle.mrpdu_codec.specs.declared.form.AppForm.TheVariants.{Mvrp, Msrp, Mmrp}
use Rattle.mrpdu_codec.specs.{Octets.number, Octets.thirds, Types.row_of, Tree.Vector, Tree.fours_for, Tree.vector_octets, Tree.AttributeList, Tree.MessageTree, Tree.message_octets, Tree.MrpduTree, Tree.AttributeList.Vectors, Tree.AttributeList.Skipped}

-- ---- By the syntax tree

-- vectors that begin at an offset: FirstValue stands behind the two octets of the header
abbrev pub vector_places : ℕ → List Vector → List ℕ
vector_places at [] = []
vector_places at (v ∷ vs) = (at + 2) ∷ vector_places (at + length (vector_octets v)) vs

-- octets that are skipped have no vectors
abbrev pub list_places : ℕ → AttributeList → List ℕ
list_places at (Vectors vs) = vector_places at vs
list_places at (Skipped octets) = []

-- a type that its application doesn't know has no places
abbrev pub known_places : Option TypeForm → List ℕ → List (List ℕ)
known_places None places = []
known_places (Some t) places = places ∷ []

-- a Message that begins at an offset: its list stands behind AttributeType, AttributeLength and, in
-- MSRP, AttributeListLength
abbrev pub message_places : AppForm → ℕ → MessageTree → List (List ℕ)
message_places form at b =
    known_places (row_of form b.kind) (list_places (at + 2 + length b.list_length) b.list)

-- Messages, the first of which begins at an offset
abbrev pub messages_places : AppForm → ℕ → List MessageTree → List (List ℕ)
messages_places form at [] = []
messages_places form at (b ∷ bs) =
    message_places form at b ++ messages_places form (at + length (message_octets b)) bs

-- a PDU: its Messages begin behind ProtocolVersion
abbrev pub tree_places : AppForm → MrpduTree → List (List ℕ)
tree_places form tree = messages_places form 1 tree.messages

-- ---- By the octets, which are taken to spell a PDU. Each step knows by the header alone how many octets
-- follow.

-- how many octets a vector has behind its header
abbrev pub span_of : Option TypeForm → ℕ → ℕ → ℕ
span_of row len header = len + (thirds (header % 8192) + fours_for row (header % 8192))

-- a vector's header and the octets behind it; none at an EndMark, and where the octets end
abbrev pub header_in : List ℕ → Option (ℕ × List ℕ)
header_in [] = None
header_in (o ∷ []) = None
header_in (high ∷ low ∷ octets) = if number high low == 0 then None else Some (number high low, octets)

-- the FirstValues of vectors, in octets that end at an offset, where so many octets are to be
-- passed first
unfoldable pub places_in : Option TypeForm → ℕ → ℕ → ℕ → List ℕ → List ℕ
places_in row len end n [] = []
places_in row len end (suc n) (o ∷ octets) = places_in row len end n octets
places_in row len end zero (o ∷ []) = []
places_in row len end zero (high ∷ low ∷ octets) =
    if number high low == 0 then []
    else ((end - length octets) ∷ places_in row len end (span_of row len (number high low)) octets)

-- the octets from the end of vectors on, where so many octets are to be passed first
unfoldable pub behind_vectors : Option TypeForm → ℕ → ℕ → List ℕ → List ℕ
behind_vectors row len n [] = []
behind_vectors row len (suc n) (o ∷ octets) = behind_vectors row len n octets
behind_vectors row len zero (o ∷ []) = o ∷ []
behind_vectors row len zero (high ∷ low ∷ octets) =
    if number high low == 0 then high ∷ low ∷ octets
    else behind_vectors row len (span_of row len (number high low)) octets

-- a Message, of octets from AttributeLength on that end at an offset
abbrev pub body_places : AppForm → Option TypeForm → ℕ → List ℕ → List ℕ
body_places Mvrp row end (len ∷ octets) = places_in row len end 0 octets
body_places Msrp row end (len ∷ high ∷ low ∷ octets) =
    places_in row len (end - length (drop (number high low - 2) octets)) 0 (take (number high low - 2) octets)
body_places Mmrp row end (len ∷ octets) = places_in row len end 0 octets
body_places _ row end _ = []

-- the octets behind the EndMark of a Message, of octets from AttributeLength on;
-- AttributeListLength counts the EndMark
abbrev pub behind_body : AppForm → Option TypeForm → List ℕ → List ℕ
behind_body Mvrp row (len ∷ octets) = drop 2 (behind_vectors row len 0 octets)
behind_body Msrp row (len ∷ high ∷ low ∷ octets) = drop (number high low) octets
behind_body Mmrp row (len ∷ octets) = drop 2 (behind_vectors row len 0 octets)
behind_body _ row _ = []

-- an AttributeType and the octets behind it; none at the PDU's EndMark, and where the octets end
abbrev pub kind_in : List ℕ → Option (ℕ × List ℕ)
kind_in [] = None
kind_in (kind ∷ octets) = if kind == 0 then None else Some (kind, octets)

-- Messages, of octets that end at an offset, and at most as many as fuel
unfoldable pub places_from : ℕ → AppForm → ℕ → List ℕ → List (List ℕ)
places_from (suc fuel) form end (kind ∷ octets) =
    if kind == 0 then []
    else (known_places (row_of form kind) (body_places form (row_of form kind) end octets)
    ++ places_from fuel form end (behind_body form (row_of form kind) octets))
places_from _ form end _ = []

-- the places of a PDU's FirstValues: a list for each Message, with a place for each vector
unfoldable pub first_places : AppForm → List ℕ → List (List ℕ)
first_places form [] = []
first_places form (version ∷ octets) = places_from (length octets) form (1 + length octets) octets

-- the place of a Message and a vector in it, both numbered from 0
abbrev pub first_value_place : List (List ℕ) → ℕ → ℕ → Option ℕ
first_value_place places message vector = option_and_then (λ ps. slice_get ps vector) (slice_get places message)

-- ---- What stands there

-- the FirstValues of vectors stand at these places
abbrev pub StandAt : List ℕ → List ℕ → List VectorAttr → Type 0
StandAt octets [] [] = Unit {0}
StandAt octets (p ∷ ps) (v ∷ vs) = (take (length v.first) (drop p octets) ≡ v.first) × StandAt octets ps vs
StandAt octets _ _ = ⊥

-- the FirstValues of Messages stand at these places
abbrev pub AllStandAt : List ℕ → List (List ℕ) → List Message → Type 0
AllStandAt octets [] [] = Unit {0}
AllStandAt octets (ps ∷ pss) (m ∷ ms) = StandAt octets ps m.vectors × AllStandAt octets pss ms
AllStandAt octets _ _ = ⊥
