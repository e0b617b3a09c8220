-- What a test picks of a list, compared with another list, element by element.
use Rattle.std.proofs.Common.{◌≡◌, ℕ, zero, suc, ◌+◌, ◌<◌, ◌≤◌, inl, inr, Bool, true, false, List, [], ◌∷◌, length, get_or, drop, map, refl, sym, ◌∙◌, ap, arith}
use Rattle.std.specs.Prelude.{filter, ◌==◌, ◌&&◌, HoldsAt}
use Rattle.std.specs.Cmp.Lexicographic.{pointwise}
use Rattle.std.proofs.lemmas.{Bool.cond-true, Bool.cond-false, Bool.cases_eq, Bool.eq-eqb, Bool.ne_eqb, List.drop_more, List.drop_all}

module _ {X Y : Type 0} (test : X → Bool) (f : X → Y) where
  abbrev pub picked : List X → List Y
  picked xs = map f (filter test xs)

  pub pick_none : (i : ℕ) (xs : List X) → i < length xs → HoldsAt (λ x. test x ≡ false) xs i → picked (drop i xs) ≡ picked (drop (i + 1) xs)
  pick_none i [] lt h = absurd (omega (arith, lt))
  pick_none i (x ∷ xs) lt h =
      let y = get_or (x ∷ xs) i x in
      let rest = drop (i + 1) (x ∷ xs) in
      ap picked (drop_more (x ∷ xs) i x lt) ∙ ap (λ (zs : List X). map f zs) (cond-false (test y) (y ∷ filter test rest) (filter test rest) (h x))

  pub pick_one : (i : ℕ) (xs : List X) (v : Y) → i < length xs → HoldsAt (λ x. (test x ≡ true) × (v ≡ f x)) xs i → picked (drop i xs) ≡ v ∷ picked (drop (i + 1) xs)
  pick_one i [] v lt h = absurd (omega (arith, lt))
  pick_one i (x ∷ xs) v lt h =
      let y = get_or (x ∷ xs) i x in
      let rest = drop (i + 1) (x ∷ xs) in
      ap picked (drop_more (x ∷ xs) i x lt) ∙ ap (λ (zs : List X). map f zs) (cond-true (test y) (y ∷ filter test rest) (filter test rest) (h x).0)
      ∙ ap (λ (z : Y). z ∷ picked rest) (sym (h x).1)

  module _ (E : Y → Y → Bool) where
    pub pass_none : (ys : List Y) (n i : ℕ) (xs : List X) → i < length xs → HoldsAt (λ x. test x ≡ false) xs i
        → pointwise E (drop n ys) (picked (drop i xs)) ≡ pointwise E (drop n ys) (picked (drop (i + 1) xs))
    pass_none ys n i xs lt h = ap (pointwise E (drop n ys)) (pick_none i xs lt h)

    pub pass_same : (ys : List Y) (n i : ℕ) (xs : List X) (v w : Y) → i < length xs → n < length ys → HoldsAt (λ x. (test x ≡ true) × (v ≡ f x)) xs i → w ≡ get_or ys n w → E w v ≡ true
        → pointwise E (drop n ys) (picked (drop i xs)) ≡ pointwise E (drop (n + 1) ys) (picked (drop (i + 1) xs))
    pass_same ys n i xs v w lt within h at same =
        ap (pointwise E (drop n ys)) (pick_one i xs v lt h)
        ∙ ap (λ (zs : List Y). pointwise E zs (v ∷ picked (drop (i + 1) xs))) (drop_more ys n w within)
        ∙ ap (λ (u : Y). E u v && pointwise E (drop (n + 1) ys) (picked (drop (i + 1) xs))) (sym at)
        ∙ ap (λ (b : Bool). b && pointwise E (drop (n + 1) ys) (picked (drop (i + 1) xs))) same

    pub pass_other : (ys : List Y) (n i : ℕ) (xs : List X) (v w : Y) → i < length xs → n < length ys → HoldsAt (λ x. (test x ≡ true) × (v ≡ f x)) xs i → w ≡ get_or ys n w → E w v ≡ false
        → pointwise E (drop n ys) (picked (drop i xs)) ≡ false
    pass_other ys n i xs v w lt within h at other =
        ap (pointwise E (drop n ys)) (pick_one i xs v lt h)
        ∙ ap (λ (zs : List Y). pointwise E zs (v ∷ picked (drop (i + 1) xs))) (drop_more ys n w within)
        ∙ ap (λ (u : Y). E u v && pointwise E (drop (n + 1) ys) (picked (drop (i + 1) xs))) (sym at)
        ∙ ap (λ (b : Bool). b && pointwise E (drop (n + 1) ys) (picked (drop (i + 1) xs))) other

    pub pass_end : (ys : List Y) (n i : ℕ) (xs : List X) (v : Y) → i < length xs → length ys ≤ n → HoldsAt (λ x. (test x ≡ true) × (v ≡ f x)) xs i
        → pointwise E (drop n ys) (picked (drop i xs)) ≡ false
    pass_end ys n i xs v lt past h =
        ap (pointwise E (drop n ys)) (pick_one i xs v lt h) ∙ ap (λ (zs : List Y). pointwise E zs (v ∷ picked (drop (i + 1) xs))) (drop_all n ys past)

    one_less : (m n : ℕ) → (m == n) ≡ (suc m == suc n)
    one_less m n =
        elim (cases_eq m n) [
          | inl e ↦ eq-eqb m n e ∙ sym (eq-eqb (suc m) (suc n) (ap suc e))
          | inr differ ↦ ne_eqb m n differ ∙ sym (ne_eqb (suc m) (suc n) (λ e. differ (omega (arith, e))))
        ]

    nothing_left : (ys : List Y) (n : ℕ) → n ≤ length ys → pointwise E (drop n ys) [] ≡ (n == length ys)
    nothing_left [] zero le = refl
    nothing_left [] (suc n) le = absurd (omega (arith, le))
    nothing_left (y ∷ ys) zero le = sym (ne_eqb 0 (suc (length ys)) (λ e. omega (arith, e)))
    nothing_left (y ∷ ys) (suc n) le = nothing_left ys n (omega (arith, le)) ∙ one_less n (length ys)

    pub all_passed : (ys : List Y) (n i : ℕ) (xs : List X) → length xs ≤ i → n ≤ length ys → pointwise E (drop n ys) (picked (drop i xs)) ≡ (n == length ys)
    all_passed ys n i xs past le = ap (λ (zs : List X). pointwise E (drop n ys) (picked zs)) (drop_all i xs past) ∙ nothing_left ys n le
