-- The grammar of MRPDUs (IEEE Std 802.1Q-2018, 10.8): which octets spell which PDU, and where
-- octets that spell none break. Both join whole lists of octets.
use Rattle.std.specs.Prelude.{◌≡◌, ℕ, ◌+◌, ◌<◌, true, false, List, [], ◌∷◌, ◌++◌, length, Option, Some, None, ◌⊎◌}
use Rattle.std.specs.List.{AllByRecursion}
use Rattle.mrpdu_codec.specs.declared.{form.AppForm.AppForm, form.TypeForm.TypeForm, pdu.Pdu.Pdu}
use Rattle.mrpdu_codec.specs.declared.form.AppForm.TheVariants.{Mvrp, Msrp, Mmrp}
use Rattle.mrpdu_codec.specs.{Octets.number, Octets.thirds, Types.row_of, Tree.Vector, Tree.count, Tree.packed_limit, Tree.fours_for, Tree.header_fits, Tree.AllUpTo, Tree.vectors_octets, Tree.MessageTree, Tree.length_fits, Tree.AreVectors, Tree.IsMessage, Tree.messages_octets, Tree.MrpduTree, Tree.tree_octets, Tree.IsPduTree, Tree.pdu_of}

-- A tree that meets the rules has these octets as its spelling and this PDU as its meaning.
pub record Spells (form : AppForm) (octets : List ℕ) (pdu : Pdu) : Type 0 where
  pub tree : MrpduTree
  pub rules : IsPduTree form tree
  pub spelling : octets ≡ tree_octets tree
  pub meaning : pdu ≡ pdu_of form tree

-- ---- Fields that break. Each speaks of the octets from the field on.

-- the octets end before this field of one octet, or the octet is above its limit
abbrev pub OctetBreaks : ℕ → List ℕ → Type 0
OctetBreaks limit [] = Unit {0}
OctetBreaks limit (o ∷ rest) = limit < o

-- a header is cut, or its LeaveAllEvent isn't allowed
abbrev pub HeaderBreaks : Option TypeForm → List ℕ → Type 0
HeaderBreaks row [] = ⊥
HeaderBreaks row (high ∷ []) = Unit {0}
HeaderBreaks row (high ∷ low ∷ rest) = header_fits row high low ≡ false

-- no AttributeLength, or one that isn't the type's
abbrev pub LengthBreaks : Option TypeForm → List ℕ → Type 0
LengthBreaks row [] = Unit {0}
LengthBreaks row (len ∷ rest) = length_fits row len ≡ false

-- an AttributeListLength that is cut, or below 2
abbrev pub ListLengthBreaks : List ℕ → Type 0
ListLengthBreaks [] = Unit {0}
ListLengthBreaks (high ∷ []) = Unit {0}
ListLengthBreaks (high ∷ low ∷ rest) = number high low < 2

-- one octet alone, or two octets that aren't both 0
abbrev pub EndMarkBreaks : List ℕ → Type 0
EndMarkBreaks [] = ⊥
EndMarkBreaks (a ∷ []) = Unit {0}
EndMarkBreaks (a ∷ b ∷ rest) = 0 < number a b

-- the octets end, or an AttributeType of 0, where the first Message begins
abbrev pub FirstTypeBreaks : List ℕ → Type 0
FirstTypeBreaks [] = Unit {0}
FirstTypeBreaks (kind ∷ rest) = kind ≡ 0

-- an octet of 0 that no octet of 0 follows, where a later Message could begin
abbrev pub LaterTypeBreaks : List ℕ → Type 0
LaterTypeBreaks [] = ⊥
LaterTypeBreaks (kind ∷ []) = kind ≡ 0
LaterTypeBreaks (kind ∷ next ∷ rest) = (kind ≡ 0) × (0 < next)

-- ---- Where whole fields end and a field breaks: front are whole fields, and rest begins with the
-- first field that breaks.

-- A vector of a type with this row, where FirstValue has len octets.
pub data VectorBreaks (row : Option TypeForm) (len : ℕ) (front rest : List ℕ) : Type 0 where
  -- the header
  header : front ≡ [] → HeaderBreaks row rest → VectorBreaks row len front rest
  -- FirstValue is cut
  first_value : (v : Vector) → header_fits row v.high v.low ≡ true → 0 < number v.high v.low
      → front ≡ v.high ∷ v.low ∷ [] → length rest < len → VectorBreaks row len front rest
  -- one of the ThreePackedEvents, each a field of its own
  packed : (v : Vector) → header_fits row v.high v.low ≡ true → 0 < number v.high v.low
      → length v.first ≡ len → AllUpTo (packed_limit row) v.three_packed → length v.three_packed < thirds (count v)
      → front ≡ v.high ∷ v.low ∷ (v.first ++ v.three_packed) → OctetBreaks (packed_limit row) rest → VectorBreaks row len front rest
  -- one of the FourPackedEvents is missing
  four_packed : (v : Vector) → header_fits row v.high v.low ≡ true → 0 < number v.high v.low
      → length v.first ≡ len → AllUpTo (packed_limit row) v.three_packed → length v.three_packed ≡ thirds (count v)
      → AllUpTo 255 v.four_packed → length v.four_packed < fours_for row (count v)
      → front ≡ v.high ∷ v.low ∷ (v.first ++ (v.three_packed ++ v.four_packed)) → OctetBreaks 255 rest → VectorBreaks row len front rest

-- Whole vectors, and one that breaks.
pub data ListBreaks (row : Option TypeForm) (len : ℕ) (front rest : List ℕ) : Type 0 where
  vector : (vs : List Vector) (part : List ℕ) → AreVectors row len vs → front ≡ vectors_octets vs ++ part
      → VectorBreaks row len part rest → ListBreaks row len front rest

-- In MSRP a region of size octets holds whole vectors alone, and a field that passes its end
-- breaks. Where fewer octets are there, the region ends with them, and a header is missing at its
-- end. So front and rest are the region's octets alone.
pub data RegionBreaks (row : Option TypeForm) (len size : ℕ) (front rest : List ℕ) : Type 0 where
  -- a vector in it
  vector : ListBreaks row len front rest → RegionBreaks row len size front rest
  -- a header of 0 in it
  end_mark : (vs : List Vector) → AreVectors row len vs → front ≡ vectors_octets vs
      → (more : List ℕ) → rest ≡ 0 ∷ 0 ∷ more → RegionBreaks row len size front rest
  -- the octets end before it does
  short : (vs : List Vector) → AreVectors row len vs → front ≡ vectors_octets vs
      → rest ≡ [] → length front < size → RegionBreaks row len size front rest

-- What of octets is a region of size octets, and what stands beyond it: where the octets are fewer,
-- all of them are the region's.
abbrev pub IsRegion : ℕ → List ℕ → List ℕ → Type 0
IsRegion size region beyond = (length region ≡ size) ⊎ ((length region < size) × (beyond ≡ []))

-- What stands after AttributeLength in MSRP: AttributeListLength, and what it counts with an
-- EndMark.
pub data CountedBreaks (row : Option TypeForm) (len : ℕ) (front rest : List ℕ) : Type 0 where
  -- AttributeListLength
  list_length : front ≡ [] → ListLengthBreaks rest → CountedBreaks row len front rest
  -- the region of a known type
  region : (t : TypeForm) → row ≡ Some t → (high low size : ℕ) → number high low ≡ size + 2
      → (part within beyond : List ℕ) → IsRegion size (part ++ within) beyond → front ≡ high ∷ low ∷ part → rest ≡ within ++ beyond
      → RegionBreaks row len size part within → CountedBreaks row len front rest
  -- the EndMark behind a whole region of a known type
  end_mark : (t : TypeForm) → row ≡ Some t → (high low : ℕ) (vs : List Vector) → AreVectors row len vs
      → number high low ≡ length (vectors_octets vs) + 2 → front ≡ high ∷ low ∷ vectors_octets vs
      → EndMarkBreaks rest → CountedBreaks row len front rest
  -- The octets of an unknown type are more or fewer than a whole region alone, and fewer than one
  -- with an EndMark.
  skipped : row ≡ None → (high low size : ℕ) → number high low ≡ size + 2 → front ≡ high ∷ low ∷ []
      → (length rest < size) ⊎ (length rest ≡ size + 1) → CountedBreaks row len front rest

-- What stands after AttributeLength.
abbrev pub BodyBreaks : AppForm → Option TypeForm → ℕ → List ℕ → List ℕ → Type 0
BodyBreaks Mvrp row len front rest = ListBreaks row len front rest
BodyBreaks Msrp row len front rest = CountedBreaks row len front rest
BodyBreaks Mmrp row len front rest = ListBreaks row len front rest

-- A Message of an AttributeType that isn't 0.
pub data MessageBreaks (form : AppForm) (front rest : List ℕ) : Type 0 where
  -- AttributeLength
  len : (kind : ℕ) → 0 < kind → front ≡ kind ∷ [] → LengthBreaks (row_of form kind) rest → MessageBreaks form front rest
  -- what stands after it
  body : (kind len : ℕ) → 0 < kind → length_fits (row_of form kind) len ≡ true → (part : List ℕ) → front ≡ kind ∷ len ∷ part
      → BodyBreaks form (row_of form kind) len part rest → MessageBreaks form front rest

-- Messages that are whole with their EndMarks, so that another may follow
abbrev pub AreClosed : AppForm → List MessageTree → Type 0
AreClosed form bs = AllByRecursion (λ b. IsMessage form b × (0 < length b.end_mark)) bs

-- Whole fields, and the first field of all that breaks.
pub data PduBreaks (form : AppForm) (front rest : List ℕ) : Type 0 where
  -- ProtocolVersion is missing
  version : front ≡ [] → rest ≡ [] → PduBreaks form front rest
  -- the AttributeType of the first Message
  first_type : (version : ℕ) → front ≡ version ∷ [] → FirstTypeBreaks rest → PduBreaks form front rest
  -- the AttributeType of a later Message, or the PDU's EndMark
  later_type : (version : ℕ) (bs : List MessageTree) → 0 < length bs → AreClosed form bs → front ≡ version ∷ messages_octets bs
      → LaterTypeBreaks rest → PduBreaks form front rest
  -- a Message behind whole ones
  message : (version : ℕ) (bs : List MessageTree) (part : List ℕ) → AreClosed form bs → front ≡ version ∷ (messages_octets bs ++ part)
      → MessageBreaks form part rest → PduBreaks form front rest

-- The octets have whole fields that meet their rules before this place, and the field there breaks
-- its rule or isn't whole.
pub record Breaks (form : AppForm) (octets : List ℕ) (place : ℕ) : Type 0 where
  pub front : List ℕ
  pub rest : List ℕ
  pub whole : octets ≡ front ++ rest
  pub at_place : place ≡ length front
  pub breaks : PduBreaks form front rest
