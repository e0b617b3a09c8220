-- What a reader of vectors takes is a vector of the grammar, and where it stops a field breaks.
use Rattle.std.proofs.Common.{◌≡◌, ℕ, zero, suc, ◌%◌, ◌<◌, ◌≤◌, true, false, leb, ltb, eqb, List, [], ◌∷◌, ◌++◌, length, map, Option, MatchResult, ◌⊎◌, inl, inr, refl, sym, ap, subst, ◌∙◌, append_assoc, arith, rules}
use Rattle.std.proofs.lemmas.{Bool.false≢true, Bool.ltb-false, Bool.leb-true, Bool.leb-false, Bool.ltb-true, Bool.eqb-false, List.take-append-drop, List.length-take-le}
use Rattle.mrpdu_codec.specs.{TypeForm, VectorAttr, number, thirds, Vector, packed_limit, fours_for, header_fits, AllUpTo, IsVector, vector_octets, vectors_octets, AreVectors, attr_of, OctetBreaks, HeaderBreaks, VectorBreaks, ListBreaks, packed_at, header_at, first_at, vector_at, ends_list, vectors_at}
use Rattle.mrpdu_codec.specs.Grammar.ListBreaks.{vector as list_vector}
use Rattle.mrpdu_codec.specs.Grammar.VectorBreaks.{header as header_breaks, first_value, packed as packed_breaks, four_packed}
use Rattle.mrpdu_codec.proofs.{Longer.vector_longer, Steps.then_match, Steps.test_match, Steps.Broken}

whole3 : (octets : List ℕ) (high low : ℕ) (rest first after packed last : List ℕ) → octets ≡ high ∷ low ∷ rest → rest ≡ first ++ after → after ≡ packed ++ last
    → octets ≡ (high ∷ low ∷ (first ++ packed)) ++ last
whole3 octets high low rest first after packed last h f p = h ∙ ap (λ (t : List ℕ). high ∷ low ∷ t) (f ∙ ap (λ (t : List ℕ). first ++ t) p ∙ sym (append_assoc first packed last))

whole4 : (octets : List ℕ) (high low : ℕ) (rest first after packed behind fours last : List ℕ) → octets ≡ high ∷ low ∷ rest → rest ≡ first ++ after → after ≡ packed ++ behind → behind ≡ fours ++ last
    → octets ≡ (high ∷ low ∷ (first ++ (packed ++ fours))) ++ last
whole4 octets high low rest first after packed behind fours last h f p q = grind (arith, whole3, append_assoc)

-- ---- what was read

-- octets of their own fields
pub record Ran (limit n : ℕ) (octets taken rest : List ℕ) : Type 0 where
  pub whole : octets ≡ taken ++ rest
  pub count : length taken ≡ n
  pub each : AllUpTo limit taken

pub record RanOut (limit n : ℕ) (front rest : List ℕ) : Type 0 where
  pub short : length front < n
  pub each : AllUpTo limit front
  pub breaks : OctetBreaks limit rest

pub packed_match : (limit n : ℕ) (octets : List ℕ) → MatchResult (packed_at limit n octets) (λ x. Ran limit n octets x.0 x.1) (λ left. Broken (RanOut limit n) octets left)
unfolding packed_at
packed_match limit zero octets = record { whole = refl; count = refl; each = tt }
packed_match limit (suc n) [] = record { front = []; rest = []; whole = refl; left_is = refl; breaks = record { short = omega arith; each = tt; breaks = tt } }
packed_match limit (suc n) (o ∷ rest) =
    test_match (leb o limit) _ _ _ _
    (λ good. then_match (packed_at limit n rest) _ _ _ _ _ (packed_match limit n rest)
    (λ x ran. record { whole = ap (λ (os : List ℕ). o ∷ os) ran.whole; count = ap suc ran.count; each = (leb-true o limit good, ran.each) })
    (λ left b. record {
      front = o ∷ b.front;
      rest = b.rest;
      whole = ap (λ (os : List ℕ). o ∷ os) b.whole;
      left_is = b.left_is;
      breaks = record { short = omega (arith, b.breaks.short); each = (leb-true o limit good, b.breaks.each); breaks = b.breaks.breaks };
    }))
    (λ bad. record { front = []; rest = o ∷ rest; whole = refl; left_is = refl; breaks = record { short = omega arith; each = tt; breaks = leb-false o limit bad } })

pub header_match : (row : Option TypeForm) (octets : List ℕ)
    → MatchResult (header_at row octets) (λ x. (octets ≡ x.0 ∷ x.1 ∷ x.2) × (header_fits row x.0 x.1 ≡ true)) (λ left. (left ≡ length octets) × (octets ≡ [] ⊎ HeaderBreaks row octets))
unfolding header_at
header_match row [] = (refl, inl refl)
header_match row (high ∷ []) = (refl, inr tt)
header_match row (high ∷ low ∷ rest) =
    test_match (header_fits row high low) _ _ _ _ (λ good. (refl, good)) (λ bad. (refl, inr bad))

pub first_match : (len : ℕ) (octets : List ℕ) → MatchResult (first_at len octets) (λ x. (octets ≡ x.0 ++ x.1) × (length x.0 ≡ len)) (λ left. (left ≡ length octets) × (length octets < len))
unfolding first_at
first_match len octets =
    test_match (ltb (length octets) len) _ _ _ _
    (λ good. (refl, ltb-true (length octets) len good))
    (λ bad. (sym (take-append-drop len octets), length-take-le len octets (ltb-false (length octets) len bad)))

-- a header that is whole, where no EndMark stands
above_zero : (octets : List ℕ) (high low : ℕ) (rest : List ℕ) → ends_list octets ≡ false → octets ≡ high ∷ low ∷ rest → 0 < number high low
unfolding ends_list
above_zero octets high low rest going e =
    let h : eqb (number high low) 0 ≡ false = subst (λ (o : List ℕ). ends_list o ≡ false) e going in
    let n : number high low ≡ 0 → ⊥ = eqb-false (number high low) 0 h in
    omega arith

never_ended : (row : Option TypeForm) (octets : List ℕ) → ends_list octets ≡ false → octets ≡ [] ⊎ HeaderBreaks row octets → HeaderBreaks row octets
unfolding ends_list
never_ended row octets going (inl e) = absurd (false≢true (sym (subst (λ (o : List ℕ). ends_list o ≡ false) e going)))
never_ended row octets going (inr h) = h

pub vector_match : (row : Option TypeForm) (len : ℕ) (octets : List ℕ) → ends_list octets ≡ false
    → MatchResult (vector_at row len octets) (λ x. IsVector row len x.0 × (octets ≡ vector_octets x.0 ++ x.1)) (λ left. Broken (VectorBreaks row len) octets left)
unfolding vector_at
vector_match row len octets going =
    then_match (header_at row octets) _ _ _ _ _ (header_match row octets)
    (λ head h. let some = above_zero octets head.0 head.1 head.2 going h.0 in
    let n : ℕ = number head.0 head.1 % 8192 in
    then_match (first_at len head.2) _ _ _ _ _ (first_match len head.2)
    (λ first f. then_match (packed_at (packed_limit row) (thirds n) first.1) _ _ _ _ _ (packed_match (packed_limit row) (thirds n) first.1)
    (λ packed p. then_match (packed_at 255 (fours_for row n) packed.1) _ _ _ _ _ (packed_match 255 (fours_for row n) packed.1)
    (λ fours q. (
      record { no_mark = some; leave_all = h.1; first = f.1; three_packed = p.count; events = p.each; four_packed = q.count; params = q.each },
      whole4 octets head.0 head.1 head.2 first.0 first.1 packed.0 packed.1 fours.0 fours.1 h.0 f.0 p.whole q.whole,
    ))
    (λ left q. record {
      front = head.0 ∷ head.1 ∷ (first.0 ++ (packed.0 ++ q.front));
      rest = q.rest;
      left_is = q.left_is;
      whole = whole4 octets head.0 head.1 head.2 first.0 first.1 packed.0 packed.1 q.front q.rest h.0 f.0 p.whole q.whole;
      breaks = four_packed (record { high = head.0; low = head.1; first = first.0; three_packed = packed.0; four_packed = q.front }) h.1 some f.1 p.each p.count
          q.breaks.each q.breaks.short refl q.breaks.breaks;
    }))
    (λ left p. record {
      front = head.0 ∷ head.1 ∷ (first.0 ++ p.front);
      rest = p.rest;
      left_is = p.left_is;
      whole = whole3 octets head.0 head.1 head.2 first.0 first.1 p.front p.rest h.0 f.0 p.whole;
      breaks = packed_breaks (record { high = head.0; low = head.1; first = first.0; three_packed = p.front; four_packed = [] }) h.1 some f.1 p.breaks.each p.breaks.short refl p.breaks.breaks;
    }))
    (λ left f. record {
      front = head.0 ∷ head.1 ∷ [];
      rest = head.2;
      left_is = f.0;
      whole = h.0;
      breaks = first_value (record { high = head.0; low = head.1; first = []; three_packed = []; four_packed = [] }) h.1 some refl f.1;
    }))
    (λ left h. record { front = []; rest = octets; left_is = h.0; whole = refl; breaks = header_breaks refl (never_ended row octets going h.1) })

-- ---- vectors up to an end

pub record TookVectors (row : Option TypeForm) (len : ℕ) (octets : List ℕ) (attrs : List VectorAttr) (rest : List ℕ) : Type 0 where
  pub vs : List Vector
  pub rules : AreVectors row len vs
  pub whole : octets ≡ vectors_octets vs ++ rest
  pub meaning : attrs ≡ map attr_of vs
  pub ended : ends_list rest ≡ true

then_list : (row : Option TypeForm) (len : ℕ) (octets : List ℕ) (v : Vector) (after : List ℕ) → IsVector row len v → octets ≡ vector_octets v ++ after
    → (left : ℕ) → Broken (ListBreaks row len) after left → Broken (ListBreaks row len) octets left
then_list row len octets v after rules e left b = go b.breaks where
  go : ListBreaks row len b.front b.rest → Broken (ListBreaks row len) octets left
  go (list_vector vs part all front-is breaks) = record {
    front = vector_octets v ++ b.front;
    rest = b.rest;
    left_is = b.left_is;
    whole = e ∙ ap (λ (t : List ℕ). vector_octets v ++ t) b.whole ∙ sym (append_assoc (vector_octets v) b.front b.rest);
    breaks = list_vector (v ∷ vs) part (rules, all) (ap (λ (t : List ℕ). vector_octets v ++ t) front-is ∙ sym (append_assoc (vector_octets v) (vectors_octets vs) part)) breaks;
  }

pub vectors_match : (fuel : ℕ) (row : Option TypeForm) (len : ℕ) (octets : List ℕ) → length octets ≤ fuel
    → MatchResult (vectors_at fuel row len octets) (λ x. TookVectors row len octets x.0 x.1) (λ left. Broken (ListBreaks row len) octets left)
unfolding vectors_at ends_list
vectors_match zero row len [] enough = record { vs = []; rules = tt; whole = refl; meaning = refl; ended = refl }
vectors_match zero row len (o ∷ octets) enough = absurd (omega arith)
vectors_match (suc fuel) row len octets enough =
    test_match (ends_list octets) _ _ _ _
    (λ good. record { vs = []; rules = tt; whole = refl; meaning = refl; ended = good })
    (λ bad. then_match (vector_at row len octets) _ _ _ _ _ (vector_match row len octets bad)
    (λ v h. then_match (vectors_at fuel row len v.1) _ _ _ _ _ (vectors_match fuel row len v.1 (omega (arith, vector_longer octets v.0 v.1 h.1)))
    (λ x t. record {
      vs = v.0 ∷ t.vs;
      rules = (h.0, t.rules);
      whole = h.1 ∙ ap (λ (o : List ℕ). vector_octets v.0 ++ o) t.whole ∙ sym (append_assoc (vector_octets v.0) (vectors_octets t.vs) x.1);
      meaning = ap (λ (attrs : List VectorAttr). attr_of v.0 ∷ attrs) t.meaning;
      ended = t.ended;
    })
    (λ left b. then_list row len octets v.0 v.1 h.0 h.1 left b))
    (λ left b. record { front = b.front; rest = b.rest; whole = b.whole; left_is = b.left_is; breaks = list_vector [] b.front tt refl b.breaks }))
