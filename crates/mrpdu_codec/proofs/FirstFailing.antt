-- The first vector that fails a test, in one list and then over Messages: what a codec says whose values may pass
-- the end of their field.
use Rattle.std.proofs.Common.{◌≡◌, ℕ, zero, suc, ◌+◌, Bool, true, false, inl, inr, List, [], ◌∷◌, take, Option, Some, None, refl, sym, ap, subst, ◌∙◌, arith}
use Rattle.std.specs.Prelude.{slice_get, if◌then◌else◌}
use Rattle.std.specs.List.{list_all}
use Rattle.std.proofs.lemmas.{Bool.cases_Bool, Bool.and_parts, Bool.and_from, Option.none-some, Option.some_pair_parts}
use Rattle.mrpdu_codec.specs.{VectorAttr, Message}

-- ---- vectors

-- the number of the first of these vectors that fails the test, where the first of them has this number
abbrev pub first_failing : (VectorAttr → Bool) → ℕ → List VectorAttr → Option ℕ
first_failing p i [] = None
first_failing p i (v ∷ vs) = if p v then first_failing p (i + 1) vs else Some i

failing_none : (p : VectorAttr → Bool) (i : ℕ) (vs : List VectorAttr) → first_failing p i vs ≡ None → list_all p vs ≡ true
failing_none p i [] h = refl
failing_none p i (v ∷ vs) h =
    elim (cases_Bool (p v)) [
      | inl within ↦ let e = rw within at h in and_from _ _ within (failing_none p (i + 1) vs e)
      | inr past ↦ let e = rw past at h in absurd cc
    ]

failing_all : (p : VectorAttr → Bool) (i : ℕ) (vs : List VectorAttr) → list_all p vs ≡ true → first_failing p i vs ≡ None
failing_all p i [] h = refl
failing_all p i (v ∷ vs) h =
    let both = and_parts (p v) (list_all p vs) h in
    rw both.0 (failing_all p (i + 1) vs both.1)

record FailsIn (p : VectorAttr → Bool) (i : ℕ) (vs : List VectorAttr) (x : ℕ) : Type 0 where
  n : ℕ
  v : VectorAttr
  number : x ≡ i + n
  is_vector : slice_get vs n ≡ Some v
  passes : p v ≡ false
  earlier : list_all p (take n vs) ≡ true

failing_some : (p : VectorAttr → Bool) (i : ℕ) (vs : List VectorAttr) (x : ℕ) → first_failing p i vs ≡ Some x → FailsIn p i vs x
failing_some p i [] x h = absurd cc
failing_some p i (v ∷ vs) x h =
    elim (cases_Bool (p v)) [
      | inl within ↦
          let later = failing_some p (i + 1) vs x (rw within at h) in
          record {
            n = suc later.n;
            v = later.v;
            number = omega (arith, later.number);
            is_vector = later.is_vector;
            passes = later.passes;
            earlier = and_from _ _ within later.earlier;
          }
      | inr past ↦
          let e = rw past at h in
          let here : i ≡ x = cc in
          record { n = 0; v = v; number = omega arith; is_vector = refl; passes = past; earlier = refl }
    ]

failing_at : (p : VectorAttr → Bool) (i : ℕ) (vs : List VectorAttr) (n : ℕ) (v : VectorAttr) → slice_get vs n ≡ Some v → p v ≡ false → list_all p (take n vs) ≡ true
    → first_failing p i vs ≡ Some (i + n)
failing_at p i [] n v is past earlier = absurd cc
failing_at p i (w ∷ vs) zero v is past earlier =
    let same : w ≡ v = cc in
    let here : i + 0 ≡ i = omega arith in
    rw (same, past, here) refl
failing_at p i (w ∷ vs) (suc n) v is past earlier =
    let both = and_parts (p w) (list_all p (take n vs)) earlier in
    let later : i + 1 + n ≡ i + suc n = omega arith in
    rw both.0 (failing_at p (i + 1) vs n v is past both.1 ∙ ap (λ (k : ℕ). Some k) later)

-- ---- Messages

-- what a codec's search over Messages does, where it looks at these vectors of each, by this test
pub record IsSearch (looked : Message → List VectorAttr) (fits : Message → VectorAttr → Bool) (in_range : Message → Bool) (first : ℕ → List Message → Option (ℕ × ℕ)) : Type 0 where
  pub whole : (m : Message) → in_range m ≡ list_all (fits m) (looked m)
  pub ends : (i : ℕ) → first i [] ≡ None
  pub later : (i : ℕ) (m : Message) (ms : List Message) → first_failing (fits m) 0 (looked m) ≡ None → first i (m ∷ ms) ≡ first (i + 1) ms
  pub found : (i : ℕ) (m : Message) (ms : List Message) (y : ℕ) → first_failing (fits m) 0 (looked m) ≡ Some y → first i (m ∷ ms) ≡ Some (i, y)

-- what was found
pub record FailsFrom (looked : Message → List VectorAttr) (fits : Message → VectorAttr → Bool) (in_range : Message → Bool) (i : ℕ) (ms : List Message) (x y : ℕ) : Type 0 where
  pub n : ℕ
  pub m : Message
  pub v : VectorAttr
  pub number : x ≡ i + n
  pub is_message : slice_get ms n ≡ Some m
  pub is_vector : slice_get (looked m) y ≡ Some v
  pub passes : fits m v ≡ false
  pub earlier_messages : list_all in_range (take n ms) ≡ true
  pub earlier_vectors : list_all (fits m) (take y (looked m)) ≡ true

module _ (looked : Message → List VectorAttr) (fits : Message → VectorAttr → Bool) (in_range : Message → Bool) (first : ℕ → List Message → Option (ℕ × ℕ))
    (search : IsSearch looked fits in_range first) where
  pub past_none : (i : ℕ) (ms : List Message) → first i ms ≡ None → list_all in_range ms ≡ true
  past_none i [] h = refl
  past_none i (m ∷ ms) h = go (first_failing (fits m) 0 (looked m)) refl (past_none (i + 1) ms) where
    go : (o : Option ℕ) → first_failing (fits m) 0 (looked m) ≡ o → (first (i + 1) ms ≡ None → list_all in_range ms ≡ true) → list_all in_range (m ∷ ms) ≡ true
    go None e more = and_from _ _ (search.whole m ∙ failing_none (fits m) 0 (looked m) e) (more (sym (search.later i m ms e) ∙ h))
    go (Some y) e more = absurd (none-some (i, y) (sym h ∙ search.found i m ms y e))

  all_pass : (m : Message) → in_range m ≡ true → first_failing (fits m) 0 (looked m) ≡ None
  all_pass m h = failing_all (fits m) 0 (looked m) (sym (search.whole m) ∙ h)

  pub past_all : (i : ℕ) (ms : List Message) → list_all in_range ms ≡ true → first i ms ≡ None
  past_all i [] h = search.ends i
  past_all i (m ∷ ms) h =
      let both = and_parts (in_range m) (list_all in_range ms) h in
      search.later i m ms (all_pass m both.0) ∙ past_all (i + 1) ms both.1

  pub past_some : (i : ℕ) (ms : List Message) (x y : ℕ) → first i ms ≡ Some (x, y) → FailsFrom looked fits in_range i ms x y
  past_some i [] x y h = absurd (none-some (x, y) (sym (search.ends i) ∙ h))
  past_some i (m ∷ ms) x y h = go (first_failing (fits m) 0 (looked m)) refl (past_some (i + 1) ms x y) where
    go : (o : Option ℕ) → first_failing (fits m) 0 (looked m) ≡ o → (first (i + 1) ms ≡ Some (x, y) → FailsFrom looked fits in_range (i + 1) ms x y)
        → FailsFrom looked fits in_range i (m ∷ ms) x y
    go None e more =
        let later = more (sym (search.later i m ms e) ∙ h) in
        record {
          n = suc later.n;
          m = later.m;
          v = later.v;
          number = omega (arith, later.number);
          is_message = later.is_message;
          is_vector = later.is_vector;
          passes = later.passes;
          earlier_messages = and_from _ _ (search.whole m ∙ failing_none (fits m) 0 (looked m) e) later.earlier_messages;
          earlier_vectors = later.earlier_vectors;
        }
    go (Some z) e more =
        let p = some_pair_parts i x z y (sym (search.found i m ms z e) ∙ h) in
        let here = failing_some (fits m) 0 (looked m) z e in
        let number : here.n ≡ y = omega (arith, here.number, p.1) in
        record {
          n = 0;
          m = m;
          v = here.v;
          number = omega (arith, p.0);
          is_message = refl;
          is_vector = subst (λ (j : ℕ). slice_get (looked m) j ≡ Some here.v) number here.is_vector;
          passes = here.passes;
          earlier_messages = refl;
          earlier_vectors = subst (λ (j : ℕ). list_all (fits m) (take j (looked m)) ≡ true) number here.earlier;
        }

  pub past_at : (i : ℕ) (ms : List Message) (n y : ℕ) (m : Message) (v : VectorAttr) → slice_get ms n ≡ Some m → slice_get (looked m) y ≡ Some v → fits m v ≡ false
      → list_all in_range (take n ms) ≡ true → list_all (fits m) (take y (looked m)) ≡ true → first i ms ≡ Some (i + n, y)
  past_at i [] n y m v is_message is_vector passes before_m before_v = absurd cc
  past_at i (w ∷ ms) zero y m v is_message is_vector passes before_m before_v =
      let same : w ≡ m = cc in
      let here : i + 0 ≡ i = omega arith in
      let past : first_failing (fits m) 0 (looked m) ≡ Some y = failing_at (fits m) 0 (looked m) y v is_vector passes before_v ∙ ap (λ (k : ℕ). Some k) (omega arith) in
      rw (same, here) (search.found i m ms y past)
  past_at i (w ∷ ms) (suc n) y m v is_message is_vector passes before_m before_v =
      let both = and_parts (in_range w) (list_all in_range (take n ms)) before_m in
      let later : i + 1 + n ≡ i + suc n = omega arith in
      search.later i w ms (all_pass w both.0)
      ∙ (past_at (i + 1) ms n y m v is_message is_vector passes both.1 before_v ∙ ap (λ (k : ℕ). let x : Option (ℕ × ℕ) = Some (k, y) in x) later)
