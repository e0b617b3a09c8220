-- At each place of the syntax tree stands the FirstValue of its vector.
use Rattle.std.proofs.Common.{◌≡◌, ℕ, zero, suc, ◌+◌, List, [], ◌∷◌, ◌++◌, length, take, drop, map, Option, Some, None, refl, sym, ap, subst, ◌∙◌, append_assoc, length-append, arith}
use Rattle.std.specs.Prelude.{slice_get}
use Rattle.std.specs.List.{flat_map}
use Rattle.std.proofs.lemmas.List.{drop_at, take_at}
use Rattle.mrpdu_codec.specs.{AppForm, TypeForm, VectorAttr, Message, Pdu, row_of, Vector, attr_of, vector_octets, vectors_octets, AttributeList, list_octets, list_attrs, MessageTree, message_octets, messages_octets, messages_from, messages_meant, MrpduTree, tree_octets, after_octets, pdu_of, Spells, vector_places, list_places, known_places, messages_places, tree_places, first_places, first_value_place, StandAt, AllStandAt}
use Rattle.mrpdu_codec.specs.Tree.AttributeList.{Vectors, Skipped}
use Rattle.mrpdu_codec.proofs.PlacesOfTree.{tree_walked}

-- vectors stand behind some octets, and before others
vectors_stand : (octets front : List ℕ) (vs : List Vector) (more : List ℕ) (at : ℕ) → octets ≡ front ++ (vectors_octets vs ++ more) → at ≡ length front
    → StandAt octets (vector_places at vs) (map attr_of vs)
vectors_stand octets front [] more at e f = tt
vectors_stand octets front (v ∷ vs) more at e f =
    let within = v.three_packed ++ v.four_packed in
    let rest = vectors_octets vs ++ more in
    let behind : octets ≡ (front ++ vector_octets v) ++ rest =
    e ∙ ap (λ (o : List ℕ). front ++ o) (append_assoc (vector_octets v) (vectors_octets vs) more) ∙ sym (append_assoc front (vector_octets v) rest) in
    let opened : octets ≡ (front ++ v.high ∷ v.low ∷ []) ++ (v.first ++ (within ++ rest)) =
    behind ∙ append_assoc front (vector_octets v) rest
    ∙ ap (λ (o : List ℕ). front ++ v.high ∷ v.low ∷ o) (append_assoc v.first within rest)
    ∙ sym (append_assoc front (v.high ∷ v.low ∷ []) (v.first ++ (within ++ rest))) in (
      ap (λ (o : List ℕ). take (length v.first) (drop (at + 2) o)) opened
          ∙ ap (take (length v.first)) (drop_at (front ++ v.high ∷ v.low ∷ []) (v.first ++ (within ++ rest)) (at + 2) (omega (arith, f, length-append front (v.high ∷ v.low ∷ []))))
          ∙ take_at v.first (within ++ rest) (length v.first) refl,
      vectors_stand octets (front ++ vector_octets v) vs more (at + length (vector_octets v)) behind (omega (arith, f, length-append front (vector_octets v))),
    )

list_stands : (octets front : List ℕ) (list : AttributeList) (more : List ℕ) (at : ℕ) → octets ≡ front ++ (list_octets list ++ more) → at ≡ length front
    → StandAt octets (list_places at list) (list_attrs list)
list_stands octets front (Vectors vs) more at e f = vectors_stand octets front vs more at e f
list_stands octets front (Skipped skipped) more at e f = tt

with_known : (octets : List ℕ) (row : Option TypeForm) (kind at : ℕ) (list : AttributeList) (pss : List (List ℕ)) (ms : List Message)
    → StandAt octets (list_places at list) (list_attrs list) → AllStandAt octets pss ms
    → AllStandAt octets (known_places row (list_places at list) ++ pss) (messages_from row kind (list_attrs list) ++ ms)
with_known octets row kind at list pss ms h1 h2 = grind arith

messages_stand : (form : AppForm) (octets front : List ℕ) (bs : List MessageTree) (more : List ℕ) (at : ℕ) → octets ≡ front ++ (messages_octets bs ++ more) → at ≡ length front
    → AllStandAt octets (messages_places form at bs) (flat_map (messages_meant form) bs)
messages_stand form octets front [] more at e f = tt
messages_stand form octets front (b ∷ bs) more at e f =
    let rest = messages_octets bs ++ more in
    let list = list_octets b.list in
    let behind : octets ≡ (front ++ message_octets b) ++ rest =
    e ∙ ap (λ (o : List ℕ). front ++ o) (append_assoc (message_octets b) (messages_octets bs) more) ∙ sym (append_assoc front (message_octets b) rest) in
    let head = b.kind ∷ b.len ∷ b.list_length in
    let opened : octets ≡ (front ++ head) ++ (list ++ (b.end_mark ++ rest)) =
    behind ∙ append_assoc front (message_octets b) rest
    ∙ ap (λ (o : List ℕ). front ++ b.kind ∷ b.len ∷ o) (append_assoc b.list_length (list ++ b.end_mark) rest ∙ ap (λ (o : List ℕ). b.list_length ++ o) (append_assoc list b.end_mark rest))
    ∙ sym (append_assoc front head (list ++ (b.end_mark ++ rest))) in
    with_known octets (row_of form b.kind) b.kind (at + 2 + length b.list_length) b.list _ _
    (list_stands octets (front ++ head) b.list (b.end_mark ++ rest) (at + 2 + length b.list_length) opened (omega (arith, f, length-append front head)))
    (messages_stand form octets (front ++ message_octets b) bs more (at + length (message_octets b)) behind (omega (arith, f, length-append front (message_octets b))))

tree_stands : (form : AppForm) (tree : MrpduTree) → AllStandAt (tree_octets tree) (tree_places form tree) (pdu_of form tree).messages
tree_stands form tree = messages_stand form (tree_octets tree) (tree.version ∷ []) tree.messages (after_octets tree.after) 1 refl refl

pub first_values_stand : (form : AppForm) (octets : List ℕ) (pdu : Pdu) → Spells form octets pdu → AllStandAt octets (first_places form octets) pdu.messages
first_values_stand form octets pdu s = grind (arith, tree_walked, tree_stands)

-- ---- vectors that stand at places have one each

place_stands : (octets : List ℕ) (ps : List ℕ) (vs : List VectorAttr) (y : ℕ) (v : VectorAttr) → StandAt octets ps vs → slice_get vs y ≡ Some v → (p : ℕ) × (slice_get ps y ≡ Some p)
place_stands octets ps [] y v stand is = absurd cc
place_stands octets [] (w ∷ vs) y v stand is = absurd stand
place_stands octets (p ∷ ps) (w ∷ vs) zero v stand is = (p, refl)
place_stands octets (p ∷ ps) (w ∷ vs) (suc y) v stand is = place_stands octets ps vs y v stand.1 is

pub has_place : (octets : List ℕ) (pss : List (List ℕ)) (ms : List Message) (n y : ℕ) (m : Message) (v : VectorAttr) → AllStandAt octets pss ms → slice_get ms n ≡ Some m
    → slice_get m.vectors y ≡ Some v
    → (p : ℕ) × (first_value_place pss n y ≡ Some p)
has_place octets pss [] n y m v stand is_message is_vector = absurd cc
has_place octets [] (w ∷ ms) n y m v stand is_message is_vector = absurd stand
has_place octets (ps ∷ pss) (w ∷ ms) zero y m v stand is_message is_vector =
    let same : w ≡ m = cc in
    place_stands octets ps m.vectors y v (subst (λ (x : Message). StandAt octets ps x.vectors) same stand.0) is_vector
has_place octets (ps ∷ pss) (w ∷ ms) (suc n) y m v stand is_message is_vector = has_place octets pss ms n y m v stand.1 is_message is_vector
