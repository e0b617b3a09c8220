-- The places that a walk over the octets gives are those of the syntax tree.
use Rattle.std.proofs.Common.{◌≡◌, ℕ, ◌+◌, ◌-◌, ◌⊎◌, inl, inr, List, [], ◌∷◌, ◌++◌, length, take, drop, Option, Some, None, refl, sym, ap, ◌∙◌, append_assoc, length-append, arith}
use Rattle.std.proofs.lemmas.{Bool.ne_eqb, List.append-nil, List.drop_at, List.drop_all, List.take_at}
use Rattle.mrpdu_codec.specs.{AppForm, Mvrp, Msrp, Mmrp, TypeForm, number, row_of, Vector, header, IsVector, AreVectors, vector_octets, vectors_octets, AttributeList, list_octets, MessageTree, message_octets, messages_octets, IsBody, AreMessages, MrpduTree, tree_octets, after_octets, IsPduTree, span_of, header_in, places_in, behind_vectors, body_places, behind_body, known_places, places_from, first_places, vector_places, list_places, message_places, messages_places, tree_places}
use Rattle.mrpdu_codec.specs.Tree.AttributeList.{Vectors, Skipped}
use Rattle.mrpdu_codec.proofs.PlacesLemmas.{places_step, places_end, behind_step, behind_end, from_step, from_end}

-- ---- vectors

module _ (row : Option TypeForm) (len : ℕ) where
  -- what stands behind a vector's header
  span_is : (v : Vector) → IsVector row len v → length (v.first ++ (v.three_packed ++ v.four_packed)) ≡ span_of row len (header v)
  span_is v is = omega (arith, length-append v.first (v.three_packed ++ v.four_packed), length-append v.three_packed v.four_packed, is.first, is.three_packed, is.four_packed)

  starts : (v : Vector) (more : List ℕ) → IsVector row len v → header_in (vector_octets v ++ more) ≡ Some (header v, (v.first ++ (v.three_packed ++ v.four_packed)) ++ more)
  starts v more is = rw (ne_eqb (number v.high v.low) 0 (λ e. absurd (omega (arith, e, is.no_mark)))) refl

  passed : (v : Vector) (more : List ℕ) → IsVector row len v → drop (span_of row len (header v)) ((v.first ++ (v.three_packed ++ v.four_packed)) ++ more) ≡ more
  passed v more is = drop_at (v.first ++ (v.three_packed ++ v.four_packed)) more (span_of row len (header v)) (span_is v is)

  -- where vectors begin at an offset and the octets end at another
  places_of : (at end : ℕ) (vs : List Vector) (more : List ℕ) → AreVectors row len vs → at + length (vectors_octets vs ++ more) ≡ end
      → places_in row len end 0 (vectors_octets vs ++ more) ≡ vector_places at vs ++ places_in row len end 0 more
  places_of at end [] more are e = refl
  places_of at end (v ∷ vs) more are e =
      let behind = vectors_octets vs ++ more in
      let within = v.first ++ (v.three_packed ++ v.four_packed) in
      let regrouped : (vector_octets v ++ vectors_octets vs) ++ more ≡ vector_octets v ++ behind = append_assoc (vector_octets v) (vectors_octets vs) more in
      let all : length ((vector_octets v ++ vectors_octets vs) ++ more) ≡ length (vector_octets v ++ behind) = ap length regrouped in
      let parts : length (vector_octets v ++ behind) ≡ length (vector_octets v) + length behind = length-append (vector_octets v) behind in
      let first : length (vector_octets v) ≡ 2 + length within = omega arith in
      let here : end - length (within ++ behind) ≡ at + 2 = omega (arith, length-append within behind, all, parts, first, e) in
      ap (places_in row len end 0) regrouped
      ∙ places_step row len end (header v) (vector_octets v ++ behind) (within ++ behind) (starts v behind are.0)
      ∙ ap (λ (ps : List ℕ). (end - length (within ++ behind)) ∷ ps) (
      ap (places_in row len end 0) (passed v behind are.0)
      ∙ places_of (at + length (vector_octets v)) end vs more are.1 (omega (arith, all, parts, e)))
      ∙ ap (λ (p : ℕ). p ∷ (vector_places (at + length (vector_octets v)) vs ++ places_in row len end 0 more)) here

  behind_of : (vs : List Vector) (more : List ℕ) → AreVectors row len vs → behind_vectors row len 0 (vectors_octets vs ++ more) ≡ behind_vectors row len 0 more
  behind_of [] more are = refl
  behind_of (v ∷ vs) more are =
      let behind = vectors_octets vs ++ more in
      let within = v.first ++ (v.three_packed ++ v.four_packed) in
      ap (behind_vectors row len 0) (append_assoc (vector_octets v) (vectors_octets vs) more)
      ∙ behind_step row len (header v) (vector_octets v ++ behind) (within ++ behind) (starts v behind are.0)
      ∙ ap (behind_vectors row len 0) (passed v behind are.0)
      ∙ behind_of vs more are.1

-- ---- what stands behind AttributeType

-- no vector begins at an EndMark, nor where the octets end
no_header : (mark more : List ℕ) → (mark ≡ []) ⊎ (mark ≡ 0 ∷ 0 ∷ []) → (mark ≡ [] → more ≡ []) → header_in (mark ++ more) ≡ None
no_header mark more h1 h2 = grind arith

mark_passed : (mark more : List ℕ) → (mark ≡ []) ⊎ (mark ≡ 0 ∷ 0 ∷ []) → (mark ≡ [] → more ≡ []) → drop 2 (mark ++ more) ≡ more
mark_passed mark more h1 h2 = grind arith

-- what AttributeListLength counts is passed
counted_passed : (list mark more : List ℕ) → (mark ≡ []) ⊎ (length mark ≡ 2) → (mark ≡ [] → more ≡ []) → drop (length list + 2) ((list ++ mark) ++ more) ≡ more
counted_passed list mark more h1 h2 = grind (arith, drop_all, length-append, drop_at)

two_long : (mark : List ℕ) → (mark ≡ []) ⊎ (mark ≡ 0 ∷ 0 ∷ []) → (mark ≡ []) ⊎ (length mark ≡ 2)
two_long mark (inl e) = inl e
two_long mark (inr e) = inr (ap length e)

-- the octets from AttributeLength on, with what stands behind the Message
abbrev body_octets : ℕ → List ℕ → AttributeList → List ℕ → List ℕ → List ℕ
body_octets len counted list mark more = (len ∷ (counted ++ (list_octets list ++ mark))) ++ more

module _ (row : Option TypeForm) (len end : ℕ) (mark more : List ℕ) (ends : mark ≡ [] → more ≡ []) where
  listed_places : (form : AppForm) (at : ℕ) (vs : List Vector) → AreVectors row len vs → (mark ≡ []) ⊎ (mark ≡ 0 ∷ 0 ∷ [])
      → at + length ((vectors_octets vs ++ mark) ++ more) ≡ end → places_in row len end 0 ((vectors_octets vs ++ mark) ++ more) ≡ vector_places at vs
  listed_places form at vs are is e =
      let regrouped : (vectors_octets vs ++ mark) ++ more ≡ vectors_octets vs ++ (mark ++ more) = append_assoc (vectors_octets vs) mark more in
      ap (places_in row len end 0) regrouped
      ∙ places_of row len at end vs (mark ++ more) are (omega (arith, ap length regrouped, e))
      ∙ ap (λ (ps : List ℕ). vector_places at vs ++ ps) (places_end row len end (mark ++ more) (no_header mark more is ends))
      ∙ append-nil (vector_places at vs)

  listed_behind : (vs : List Vector) → AreVectors row len vs → (mark ≡ []) ⊎ (mark ≡ 0 ∷ 0 ∷ []) → drop 2 (behind_vectors row len 0 ((vectors_octets vs ++ mark) ++ more)) ≡ more
  listed_behind vs are is = grind (arith, append_assoc, behind_of, behind_end, no_header, mark_passed)

  counted_places : (at high low : ℕ) (vs : List Vector) → AreVectors row len vs → number high low ≡ length (vectors_octets vs) + 2
      → at + length ((vectors_octets vs ++ mark) ++ more) ≡ end
      → places_in row len (end - length (drop (number high low - 2) ((vectors_octets vs ++ mark) ++ more))) 0 (take (number high low - 2) ((vectors_octets vs ++ mark) ++ more)) ≡ vector_places at vs
  counted_places at high low vs are counts e =
      let list = vectors_octets vs in
      let size : number high low - 2 ≡ length list = omega (arith, counts) in
      let regrouped : (list ++ mark) ++ more ≡ list ++ (mark ++ more) = append_assoc list mark more in
      let here : take (length list) ((list ++ mark) ++ more) ≡ list = ap (take (length list)) regrouped ∙ take_at list (mark ++ more) (length list) refl in
      let beyond : drop (length list) ((list ++ mark) ++ more) ≡ mark ++ more = ap (drop (length list)) regrouped ∙ drop_at list (mark ++ more) (length list) refl in
      let region : end - length (mark ++ more) ≡ at + length (list ++ []) = omega (arith, e, ap length regrouped, length-append list (mark ++ more), length-append list []) in
      ap (λ (n : ℕ). places_in row len (end - length (drop n ((list ++ mark) ++ more))) 0 (take n ((list ++ mark) ++ more))) size
      ∙ ap (λ (o : List ℕ). places_in row len (end - length (drop (length list) ((list ++ mark) ++ more))) 0 o) (here ∙ sym (append-nil list))
      ∙ ap (λ (o : List ℕ). places_in row len (end - length o) 0 (list ++ [])) beyond
      ∙ places_of row len at (end - length (mark ++ more)) vs [] are (sym region)
      ∙ ap (λ (ps : List ℕ). vector_places at vs ++ ps) (places_end row len (end - length (mark ++ more)) [] refl)
      ∙ append-nil (vector_places at vs)

record BodyWalked (form : AppForm) (row : Option TypeForm) (at end len : ℕ) (counted : List ℕ) (list : AttributeList) (mark more : List ℕ) : Type 0 where
  places : known_places row (body_places form row end (body_octets len counted list mark more)) ≡ known_places row (list_places (at + 2 + length counted) list)
  behind : behind_body form row (body_octets len counted list mark more) ≡ more

-- the places of a Message that begins at an offset, and what stands behind it
body_walked : (form : AppForm) (row : Option TypeForm) (at end len : ℕ) (counted : List ℕ) (list : AttributeList) (mark more : List ℕ) → IsBody form row len counted list mark
    → (mark ≡ [] → more ≡ []) → at + 1 + length (body_octets len counted list mark more) ≡ end → BodyWalked form row at end len counted list mark more
body_walked Mvrp row at end len [] (Vectors vs) mark more is ends e = record {
  places = ap (known_places row) (listed_places row len end mark more ends Mvrp (at + 2 + 0) vs is.1 is.2 (omega (arith, e)));
  behind = listed_behind row len end mark more ends vs is.1 is.2;
}
body_walked Mmrp row at end len [] (Vectors vs) mark more is ends e = record {
  places = ap (known_places row) (listed_places row len end mark more ends Mmrp (at + 2 + 0) vs is.1 is.2 (omega (arith, e)));
  behind = listed_behind row len end mark more ends vs is.1 is.2;
}
body_walked Msrp (Some t) at end len (high ∷ low ∷ []) (Vectors vs) mark more is ends e = record {
  places = ap (known_places (Some t)) (counted_places (Some t) len end mark more ends (at + 2 + 2) high low vs is.1 is.0 (omega (arith, e)));
  behind = ap (λ (n : ℕ). drop n ((vectors_octets vs ++ mark) ++ more)) is.0 ∙ counted_passed (vectors_octets vs) mark more (two_long mark is.2) ends;
}
body_walked Msrp None at end len (high ∷ low ∷ []) (Skipped octets) mark more is ends e = record {
  places = refl;
  behind = ap (λ (n : ℕ). drop n ((octets ++ mark) ++ more)) is.0 ∙ counted_passed octets mark more is.1 ends;
}
body_walked Mvrp row at end len (c ∷ cs) (Vectors vs) mark more is ends e = let none = is.0 in absurd cc
body_walked Mmrp row at end len (c ∷ cs) (Vectors vs) mark more is ends e = let none = is.0 in absurd cc
body_walked Mvrp row at end len [] (Skipped octets) mark more is ends e = absurd is
body_walked Mmrp row at end len [] (Skipped octets) mark more is ends e = absurd is
body_walked Mvrp row at end len (c ∷ cs) (Skipped octets) mark more is ends e = absurd is
body_walked Mmrp row at end len (c ∷ cs) (Skipped octets) mark more is ends e = absurd is
body_walked Msrp (Some t) at end len [] (Vectors vs) mark more is ends e = absurd is.0
body_walked Msrp (Some t) at end len (high ∷ []) (Vectors vs) mark more is ends e = absurd is.0
body_walked Msrp (Some t) at end len (high ∷ low ∷ c ∷ cs) (Vectors vs) mark more is ends e = absurd is.0
body_walked Msrp (Some t) at end len counted (Skipped octets) mark more is ends e = absurd is
body_walked Msrp None at end len [] (Skipped octets) mark more is ends e = absurd is.0
body_walked Msrp None at end len (high ∷ []) (Skipped octets) mark more is ends e = absurd is.0
body_walked Msrp None at end len (high ∷ low ∷ c ∷ cs) (Skipped octets) mark more is ends e = absurd is.0
body_walked Msrp None at end len counted (Vectors vs) mark more is ends e = absurd is

-- ---- Messages

-- an EndMark that is missing is the last
last_mark : (form : AppForm) (b : MessageTree) (bs : List MessageTree) (after : Option (List ℕ)) → AreMessages form (b ∷ bs) after → b.end_mark ≡ [] → messages_octets bs ++ after_octets after ≡ []
last_mark form b bs after are h = grind arith

messages_walked : (form : AppForm) (at end : ℕ) (bs : List MessageTree) (after : Option (List ℕ)) → AreMessages form bs after → at + length (messages_octets bs ++ after_octets after) ≡ end
    → places_from (length (messages_octets bs ++ after_octets after)) form end (messages_octets bs ++ after_octets after) ≡ messages_places form at bs
messages_walked form at end [] None are e = from_end form end [] refl
messages_walked form at end [] (Some rest) are e = from_end form end (0 ∷ 0 ∷ rest) refl
messages_walked form at end (b ∷ bs) after are e =
    let more = messages_octets bs ++ after_octets after in
    let row = row_of form b.kind in
    let body = body_octets b.len b.list_length b.list b.end_mark more in
    let regrouped : (message_octets b ++ messages_octets bs) ++ after_octets after ≡ message_octets b ++ more = append_assoc (message_octets b) (messages_octets bs) (after_octets after) in
    let one : length (message_octets b ++ more) ≡ length (message_octets b) + length more = length-append (message_octets b) more in
    let all : length ((message_octets b ++ messages_octets bs) ++ after_octets after) ≡ length (message_octets b ++ more) = ap length regrouped in
    let walked : BodyWalked form row at end b.len b.list_length b.list b.end_mark more =
    body_walked form row at end b.len b.list_length b.list b.end_mark more are.0.body (last_mark form b bs after are) (omega (arith, all, e)) in
    ap (λ (o : List ℕ). places_from (length o) form end o) regrouped
    ∙ from_step form end b.kind (message_octets b ++ more) body (rw (ne_eqb b.kind 0 (λ z. absurd (omega (arith, z, are.0.kind)))) refl)
    ∙ ap (λ (o : List ℕ). known_places row (body_places form row end body) ++ places_from (length o) form end o) walked.behind
    ∙ ap (λ (ps : List (List ℕ)). ps ++ places_from (length more) form end more) walked.places
    ∙ ap (λ (ps : List (List ℕ)). message_places form at b ++ ps) (messages_walked form (at + length (message_octets b)) end bs after are.2 (omega (arith, all, one, e)))

pub tree_walked : (form : AppForm) (tree : MrpduTree) → IsPduTree form tree → first_places form (tree_octets tree) ≡ tree_places form tree
unfolding first_places
tree_walked form tree is = messages_walked form 1 (1 + length (messages_octets tree.messages ++ after_octets tree.after)) tree.messages tree.after is.messages refl
