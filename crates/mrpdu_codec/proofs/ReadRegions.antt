-- What stands after AttributeLength: what a reader takes there is a region of the grammar with its
-- EndMark, and where it stops a field breaks.
use Rattle.std.proofs.Common.{◌≡◌, ℕ, ◌+◌, ◌<◌, ◌≤◌, true, leb, ltb, eqb, List, [], ◌∷◌, ◌++◌, length, take, drop, map, Option, Some, None, Result, Ok, Err, MatchResult, ◌⊎◌, inl, inr, refl, sym, ap, subst, ◌∙◌, append_assoc, length-append, arith}
use Rattle.std.proofs.lemmas.{Bool.false≢true, Bool.cases_lt, Bool.ltb-false, Bool.leb-true, Bool.leb-false, Bool.ltb-true, Bool.eqb-false, Bool.eqb-true, List.append-nil, List.take-append-drop, List.length-take, List.length-drop, List.length-take-le, List.drop_all, List.drop-drop, List.nil_from_length, Result.MatchResult-at_err}
use Rattle.mrpdu_codec.specs.{AppForm, Mvrp, Msrp, Mmrp, TypeForm, VectorAttr, number, Vector, vectors_octets, AreVectors, attr_of, AttributeList, IsEndMark, IsBody, list_octets, list_attrs, EndMarkBreaks, ListLengthBreaks, ListBreaks, RegionBreaks, IsRegion, CountedBreaks, BodyBreaks, before, ends_list, vectors_of, mark_at, list_at, region_at, known_at, unknown_at, size_at, sized_at, counted_at, body_at}
use Rattle.mrpdu_codec.specs.Tree.AttributeList.{Vectors, Skipped}
use Rattle.mrpdu_codec.specs.Grammar.RegionBreaks.{vector as region_vector, end_mark as region_mark, short as region_short}
use Rattle.mrpdu_codec.specs.Grammar.CountedBreaks.{list_length as counted_length, region as counted_region, end_mark as counted_mark, skipped as counted_skipped}
use Rattle.mrpdu_codec.proofs.{Steps.then_match, Steps.test_match, Steps.weaker_match, Steps.Broken, ReadVectors.TookVectors, ReadVectors.vectors_match}

of_match : (row : Option TypeForm) (len : ℕ) (octets : List ℕ)
    → MatchResult (vectors_of row len octets) (λ x. TookVectors row len octets x.0 x.1) (λ left. Broken (ListBreaks row len) octets left)
unfolding vectors_of
of_match row len octets = vectors_match (length octets) row len octets (omega arith)

-- ---- an EndMark

pub both_zero : (a b : ℕ) → number a b ≡ 0 → (a ≡ 0) × (b ≡ 0)
both_zero a b e = (omega arith, omega arith)

pub record TookMark (octets rest : List ℕ) : Type 0 where
  pub end_mark : List ℕ
  pub is_mark : IsEndMark end_mark
  pub whole : octets ≡ end_mark ++ rest
  pub last : end_mark ≡ [] → rest ≡ []

pub mark_match : (octets : List ℕ) → MatchResult (mark_at octets) (λ rest. TookMark octets rest) (λ left. (left ≡ length octets) × EndMarkBreaks octets)
unfolding mark_at
mark_match [] = record { end_mark = []; is_mark = inl refl; whole = refl; last = λ e. refl }
mark_match (a ∷ []) = (refl, tt)
mark_match (a ∷ b ∷ rest) =
    test_match (eqb (number a b) 0) _ _ _ _
    (λ good. let z = both_zero a b (eqb-true (number a b) 0 good) in
    record { end_mark = 0 ∷ 0 ∷ []; is_mark = inr refl; whole = rw (z.0, z.1) refl; last = λ e. cc })
    (λ bad. let n : number a b ≡ 0 → ⊥ = eqb-false (number a b) 0 bad in (refl, omega arith))

ended_marks : (octets : List ℕ) → ends_list octets ≡ true → EndMarkBreaks octets → ⊥
unfolding ends_list
ended_marks [] ended h = h
ended_marks (a ∷ []) ended h = false≢true ended
ended_marks (a ∷ b ∷ rest) ended h = let z = eqb-true (number a b) 0 ended in omega arith

ended_more : (octets : List ℕ) → ends_list octets ≡ true → (length octets ≡ 0 → ⊥) → (more : List ℕ) × (octets ≡ 0 ∷ 0 ∷ more)
unfolding ends_list
ended_more [] ended some = absurd (some refl)
ended_more (a ∷ []) ended some = absurd (false≢true ended)
ended_more (a ∷ b ∷ rest) ended some = let z = both_zero a b (eqb-true (number a b) 0 ended) in (rest, rw (z.0, z.1) refl)

-- ---- the body of a Message

pub record TookBody (form : AppForm) (row : Option TypeForm) (len : ℕ) (octets : List ℕ) (attrs : List VectorAttr) (rest : List ℕ) : Type 0 where
  pub list_length : List ℕ
  pub list : AttributeList
  pub end_mark : List ℕ
  pub rules : IsBody form row len list_length list end_mark
  pub whole : octets ≡ list_length ++ (list_octets list ++ (end_mark ++ rest))
  pub meaning : attrs ≡ list_attrs list
  pub last : end_mark ≡ [] → rest ≡ []

-- vectors and the EndMark behind them
record TookList (row : Option TypeForm) (len : ℕ) (octets : List ℕ) (attrs : List VectorAttr) (rest : List ℕ) : Type 0 where
  vs : List Vector
  rules : AreVectors row len vs
  end_mark : List ℕ
  is_mark : IsEndMark end_mark
  whole : octets ≡ vectors_octets vs ++ (end_mark ++ rest)
  meaning : attrs ≡ map attr_of vs
  last : end_mark ≡ [] → rest ≡ []

list_match : (row : Option TypeForm) (len : ℕ) (octets : List ℕ)
    → MatchResult (list_at row len octets) (λ x. TookList row len octets x.0 x.1) (λ left. Broken (ListBreaks row len) octets left)
unfolding list_at
list_match row len octets =
    then_match (vectors_of row len octets) _ _ _ _ _ (of_match row len octets)
    (λ x t. then_match (mark_at x.1) _ _ _ _ _ (mark_match x.1)
    (λ rest m. record {
      vs = t.vs;
      rules = t.rules;
      end_mark = m.end_mark;
      is_mark = m.is_mark;
      whole = t.whole
          ∙ ap (λ (o : List ℕ). vectors_octets t.vs ++ o) m.whole;
      meaning = t.meaning;
      last = m.last;
    })
    (λ left h. absurd (ended_marks x.1 t.ended h.1)))
    (λ left b. b)

-- ---- a region of stated size

record TookRegion (row : Option TypeForm) (len size : ℕ) (octets : List ℕ) (attrs : List VectorAttr) : Type 0 where
  vs : List Vector
  rules : AreVectors row len vs
  whole : octets ≡ vectors_octets vs
  full : length octets ≡ size
  meaning : attrs ≡ map attr_of vs

region_match : (row : Option TypeForm) (len size : ℕ) (octets : List ℕ) → length octets ≤ size
    → MatchResult (region_at row len size octets) (λ attrs. TookRegion row len size octets attrs) (λ left. Broken (RegionBreaks row len size) octets left)
unfolding region_at
region_match row len size octets at_most =
    then_match (vectors_of row len octets) _ _ _ _ _ (of_match row len octets)
    (λ x t. test_match (eqb (length x.1) 0) _ _ _ _
    (λ ends. let rest-is : x.1 ≡ [] = nil_from_length x.1 (eqb-true (length x.1) 0 ends) in
    let all : octets ≡ vectors_octets t.vs = t.whole ∙ ap (λ (o : List ℕ). vectors_octets t.vs ++ o) rest-is ∙ append-nil (vectors_octets t.vs) in
    test_match (ltb (length octets) size) _ _ _ _
    (λ good. record {
      front = octets;
      rest = [];
      whole = sym (append-nil octets);
      left_is = refl;
      breaks = region_short t.vs t.rules all refl (ltb-true (length octets) size good);
    })
    (λ bad. let le = ltb-false (length octets) size bad in
    record { vs = t.vs; rules = t.rules; whole = all; full = omega arith; meaning = t.meaning }))
    (λ more. let m = ended_more x.1 t.ended (eqb-false (length x.1) 0 more) in
    record { front = vectors_octets t.vs; rest = x.1; whole = t.whole; left_is = refl; breaks = region_mark t.vs t.rules refl m.0 m.1 }))
    (λ left b. record { front = b.front; rest = b.rest; whole = b.whole; left_is = b.left_is; breaks = region_vector b.breaks })

-- a region isn't left with more octets than it has
pub region_left : (row : Option TypeForm) (len size : ℕ) (octets : List ℕ) (left : ℕ) → region_at row len size (take size octets) ≡ Err left → left ≤ length (take size octets)
region_left row len size octets left e =
    let b = MatchResult-at_err (λ attrs. TookRegion row len size (take size octets) attrs) (λ n. Broken (RegionBreaks row len size) (take size octets) n) left e
    (region_match row len size (take size octets) (omega (arith, length-take size octets))) in
    omega (arith, b.left_is, ap length b.whole, length-append b.front b.rest)

before_match : {A : Type 0} (beyond : ℕ) (r : Result A ℕ) (P : A → Type 0) (Q Q' : ℕ → Type 0) → MatchResult r P Q → ((left : ℕ) → Q left → Q' (left + beyond)) → MatchResult (before beyond r) P Q'
before_match beyond (Ok x) P Q Q' h f = h
before_match beyond (Err left) P Q Q' h f = f left h

parts_of : (size : ℕ) (octets : List ℕ) → IsRegion size (take size octets) (drop size octets)
parts_of size octets = grind (arith, cases_lt, length-take, drop_all, length-take-le)

record TookKnown (t : TypeForm) (len size : ℕ) (octets : List ℕ) (attrs : List VectorAttr) (rest : List ℕ) : Type 0 where
  vs : List Vector
  rules : AreVectors (Some t) len vs
  full : length (vectors_octets vs) ≡ size
  end_mark : List ℕ
  is_mark : IsEndMark end_mark
  whole : octets ≡ vectors_octets vs ++ (end_mark ++ rest)
  meaning : attrs ≡ map attr_of vs
  last : end_mark ≡ [] → rest ≡ []

data KnownBreaks (t : TypeForm) (len size : ℕ) (front rest : List ℕ) : Type 0 where
  in_region : (within beyond : List ℕ) → IsRegion size (front ++ within) beyond → rest ≡ within ++ beyond → RegionBreaks (Some t) len size front within → KnownBreaks t len size front rest
  at_mark : (vs : List Vector) → AreVectors (Some t) len vs → length (vectors_octets vs) ≡ size → front ≡ vectors_octets vs → EndMarkBreaks rest → KnownBreaks t len size front rest

known_match : (t : TypeForm) (len size : ℕ) (octets : List ℕ)
    → MatchResult (known_at t len size octets) (λ x. TookKnown t len size octets x.0 x.1) (λ left. Broken (KnownBreaks t len size) octets left)
unfolding known_at
known_match t len size octets =
    let region = take size octets in
    let beyond = drop size octets in
    let split : octets ≡ region ++ beyond = sym (take-append-drop size octets) in
    let short : length region ≤ size = omega (arith, length-take size octets) in
    then_match (before (length beyond) (region_at (Some t) len size region)) _ _ (λ left. Broken (KnownBreaks t len size) octets left) _ _
    (before_match (length beyond) (region_at (Some t) len size region) _ _ _ (region_match (Some t) len size region short)
    (λ left b. record {
      front = b.front;
      rest = b.rest ++ beyond;
      whole = split ∙ ap (λ (o : List ℕ). o ++ beyond) b.whole ∙ append_assoc b.front b.rest beyond;
      left_is = omega (arith, length-append b.rest beyond, b.left_is);
      breaks = in_region b.rest beyond (subst (λ (o : List ℕ). IsRegion size o beyond) b.whole (parts_of size octets)) refl b.breaks;
    }))
    (λ attrs r. then_match (mark_at beyond) _ _ _ _ _ (mark_match beyond)
    (λ rest m. record {
      vs = r.vs;
      rules = r.rules;
      full = sym (ap length r.whole) ∙ r.full;
      end_mark = m.end_mark;
      is_mark = m.is_mark;
      whole = split ∙ ap (λ (o : List ℕ). o ++ beyond) r.whole ∙ ap (λ (o : List ℕ). vectors_octets r.vs ++ o) m.whole;
      meaning = r.meaning;
      last = m.last;
    })
    (λ left h. record {
      front = vectors_octets r.vs;
      rest = beyond;
      whole = split ∙ ap (λ (o : List ℕ). o ++ beyond) r.whole;
      left_is = h.0;
      breaks = at_mark r.vs r.rules (sym (ap length r.whole) ∙ r.full) refl h.1;
    }))
    (λ left b. b)

-- ---- an unknown type's region

record TookSkipped (size : ℕ) (octets rest : List ℕ) : Type 0 where
  skipped : List ℕ
  full : length skipped ≡ size
  end_mark : List ℕ
  is_mark : (end_mark ≡ []) ⊎ (length end_mark ≡ 2)
  whole : octets ≡ skipped ++ (end_mark ++ rest)
  last : end_mark ≡ [] → rest ≡ []

two_of : (octets : List ℕ) → 2 ≤ length octets → take 2 octets ≡ [] → ⊥
two_of octets h e = let l = ap length e in absurd (omega (arith, length-take 2 octets))

unknown_match : (size : ℕ) (octets : List ℕ)
    → MatchResult (unknown_at size octets) (λ rest. TookSkipped size octets rest) (λ left. (left ≡ length octets) × ((length octets < size) ⊎ (length octets ≡ size + 1)))
unfolding unknown_at
unknown_match size octets =
    test_match (leb (size + 2) (length octets)) _ _ _ _
    (λ good. let long = leb-true (size + 2) (length octets) good in
    let here : 2 ≤ length (drop size octets) = omega (arith, length-drop size octets) in
    record {
      skipped = take size octets;
      full = length-take-le size octets (omega arith);
      end_mark = take 2 (drop size octets);
      is_mark = inr (length-take-le 2 (drop size octets) here);
      whole = sym (take-append-drop size octets)
          ∙ ap (λ (o : List ℕ). take size octets ++ o)
          (sym (take-append-drop 2 (drop size octets)) ∙ ap (λ (o : List ℕ). take 2 (drop size octets) ++ o) (drop-drop 2 size octets));
      last = λ e. absurd (two_of (drop size octets) here e);
    })
    (λ bad. let lt = leb-false (size + 2) (length octets) bad in
    test_match (eqb (length octets) size) _ _ _ _
    (λ good. record { skipped = octets; full = eqb-true (length octets) size good; end_mark = []; is_mark = inl refl; whole = sym (append-nil octets); last = λ e. refl })
    (λ other. let ne = eqb-false (length octets) size other in
    (refl, elim (cases_lt (length octets) size) [ inl l ↦ inl l | inr g ↦ inr (omega arith) ])))

-- ---- MSRP's AttributeListLength

record TookSize (octets : List ℕ) (size : ℕ) (rest : List ℕ) : Type 0 where
  high : ℕ
  low : ℕ
  counts : number high low ≡ size + 2
  whole : octets ≡ high ∷ low ∷ rest

size_match : (octets : List ℕ) → MatchResult (size_at octets) (λ x. TookSize octets x.0 x.1) (λ left. (left ≡ length octets) × ListLengthBreaks octets)
unfolding size_at
size_match [] = (refl, tt)
size_match (high ∷ []) = (refl, tt)
size_match (high ∷ low ∷ rest) =
    test_match (ltb (number high low) 2) _ _ _ _
    (λ good. (refl, ltb-true (number high low) 2 good))
    (λ bad. let le = ltb-false (number high low) 2 bad in record { high = high; low = low; counts = omega arith; whole = refl })

known_breaks : (t : TypeForm) (len : ℕ) (octets : List ℕ) (size : ℕ) (after : List ℕ) → TookSize octets size after → (left : ℕ)
    → Broken (KnownBreaks t len size) after left → Broken (CountedBreaks (Some t) len) octets left
known_breaks t len octets size after s left b = go b.breaks where
  go : KnownBreaks t len size b.front b.rest → Broken (CountedBreaks (Some t) len) octets left
  go (in_region within beyond is_region rest-is breaks) = record {
    front = s.high ∷ s.low ∷ b.front;
    rest = b.rest;
    left_is = b.left_is;
    whole = s.whole ∙ ap (λ (o : List ℕ). s.high ∷ s.low ∷ o) b.whole;
    breaks = counted_region t refl s.high s.low size s.counts b.front within beyond is_region refl rest-is breaks;
  }
  go (at_mark vs rules full front-is breaks) = record {
    front = s.high ∷ s.low ∷ b.front;
    rest = b.rest;
    left_is = b.left_is;
    whole = s.whole ∙ ap (λ (o : List ℕ). s.high ∷ s.low ∷ o) b.whole;
    breaks = counted_mark t refl s.high s.low vs rules (rw full s.counts) (ap (λ (o : List ℕ). s.high ∷ s.low ∷ o) front-is) breaks;
  }

sized_match : (row : Option TypeForm) (len : ℕ) (octets : List ℕ) (size : ℕ) (after : List ℕ) → TookSize octets size after
    → MatchResult (sized_at row len size after) (λ x. TookBody Msrp row len octets x.0 x.1) (λ left. Broken (CountedBreaks row len) octets left)
sized_match None len octets size after s =
    then_match (unknown_at size after) _ _ _ _ _ (unknown_match size after)
    (λ rest k. record {
      list_length = s.high ∷ s.low ∷ [];
      list = Skipped k.skipped;
      end_mark = k.end_mark;
      rules = (rw k.full s.counts, k.is_mark);
      whole = s.whole ∙ ap (λ (o : List ℕ). s.high ∷ s.low ∷ o) k.whole;
      meaning = refl;
      last = k.last;
    })
    (λ left h. record { front = s.high ∷ s.low ∷ []; rest = after; whole = s.whole; left_is = h.0; breaks = counted_skipped refl s.high s.low size s.counts refl h.1 })
sized_match (Some t) len octets size after s =
    weaker_match (known_at t len size after) _ _ _ _ (known_match t len size after)
    (λ x k. record {
      list_length = s.high ∷ s.low ∷ [];
      list = Vectors k.vs;
      end_mark = k.end_mark;
      rules = (rw k.full s.counts, k.rules, k.is_mark);
      whole = s.whole ∙ ap (λ (o : List ℕ). s.high ∷ s.low ∷ o) k.whole;
      meaning = k.meaning;
      last = k.last;
    })
    (λ left b. known_breaks t len octets size after s left b)

counted_match : (row : Option TypeForm) (len : ℕ) (octets : List ℕ)
    → MatchResult (counted_at row len octets) (λ x. TookBody Msrp row len octets x.0 x.1) (λ left. Broken (CountedBreaks row len) octets left)
unfolding counted_at
counted_match row len octets =
    then_match (size_at octets) _ _ _ _ _ (size_match octets)
    (λ x s. sized_match row len octets x.0 x.1 s)
    (λ left h. record { front = []; rest = octets; whole = refl; left_is = h.0; breaks = counted_length refl h.1 })

pub body_match : (form : AppForm) (row : Option TypeForm) (len : ℕ) (octets : List ℕ)
    → MatchResult (body_at form row len octets) (λ x. TookBody form row len octets x.0 x.1) (λ left. Broken (BodyBreaks form row len) octets left)
body_match Mvrp row len octets =
    weaker_match (list_at row len octets) _ _ _ _ (list_match row len octets)
    (λ x t. record { list_length = []; list = Vectors t.vs; end_mark = t.end_mark; rules = (refl, t.rules, t.is_mark); whole = t.whole; meaning = t.meaning; last = t.last })
    (λ left b. b)
body_match Msrp row len octets = counted_match row len octets
body_match Mmrp row len octets =
    weaker_match (list_at row len octets) _ _ _ _ (list_match row len octets)
    (λ x t. record { list_length = []; list = Vectors t.vs; end_mark = t.end_mark; rules = (refl, t.rules, t.is_mark); whole = t.whole; meaning = t.meaning; last = t.last })
    (λ left b. b)
