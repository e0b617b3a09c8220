-- Lists sorted by a number, for any type of element: a stable sort keeps those of one number as they stand, and two
-- lists that ascend and have the same of each number are one.
use Rattle.std.proofs.Common.{◌≡◌, ◌≢◌, ℕ, suc, ◌<◌, ◌≤◌, inl, inr, Bool, true, false, cond, List, [], ◌∷◌, length, get_or, drop, refl, sym, ◌∙◌, ap, subst, arith}
use Rattle.std.specs.Prelude.{filter, nat_lt, ◌==◌, ◌&&◌, not}
use Rattle.std.specs.{List.AllByRecursion, List.Sorted.IsNonDecreasingBy, List.Sorted.IsStableByKey, List.Sorted.ties, Ordering.nat_cmp, Ordering.is_lt, declared.cmp.Ordering.Ordering, declared.cmp.Ordering.TheVariants.Less, declared.cmp.Ordering.TheVariants.Equal, declared.cmp.Ordering.TheVariants.Greater}
use Rattle.std.proofs.lemmas.Bool.{cond-true, cond-false, cases_Bool, cases_order, cond_both, eq-eqb, ne_eqb, eqb-true, eqb-false, lt-ltb, le-ltb}
use Rattle.srp_base.proofs.Lists.{filter-along}

-- ---- what ties by a number has the same number

less-is : (a b : ℕ) → a < b → is_lt (nat_cmp a b) ≡ true
less-is a b h = ap (λ (o : Ordering). is_lt o) (cond-true (nat_lt a b) Less (cond (a == b) Equal Greater) (lt-ltb a b h))

less-not : (a b : ℕ) → b ≤ a → is_lt (nat_cmp a b) ≡ false
less-not a b h =
    ap (λ (o : Ordering). is_lt o) (cond-false (nat_lt a b) Less (cond (a == b) Equal Greater) (le-ltb a b h))
    ∙ cond_both (a == b) Equal Greater (λ o. is_lt o ≡ false) (λ e. refl) (λ e. refl)

tied : (a b : ℕ) → (not (is_lt (nat_cmp a b)) && not (is_lt (nat_cmp b a))) ≡ (b == a)
tied a b =
    let first = λ (p : Bool). not p && not (is_lt (nat_cmp b a)) in
    let second = λ (p : Bool). not false && not p in
    elim (cases_order a b) [
      | inl e ↦ ap first (less-not a b (omega (arith, e))) ∙ ap second (less-not b a (omega (arith, e))) ∙ sym (eq-eqb b a (sym e))
      | inr (inl lt) ↦ ap first (less-is a b lt) ∙ sym (ne_eqb b a (λ e. omega (arith, lt, e)))
      | inr (inr gt) ↦ ap first (less-not a b (omega (arith, gt))) ∙ ap second (less-is b a gt) ∙ sym (ne_eqb b a (λ e. omega (arith, gt, e)))
    ]

module _ {X : Type 0} (key : X → ℕ) where
  -- the elements of a number
  abbrev pub of : ℕ → List X → List X
  of t xs = filter (λ x. key x == t) xs

  -- a stable sort keeps them as they stand
  pub of-kept : (xs ys : List X) (x : X) → IsStableByKey key nat_cmp xs ys → of (key x) ys ≡ of (key x) xs
  of-kept xs ys x stable =
      let of_x : X → Bool = λ y. key y == key x in
      let tie : X → Bool = ties (λ a b. is_lt (nat_cmp (key a) (key b))) x in
      let same = λ (y : X). tied (key x) (key y) in
      sym (filter-along tie of_x same ys) ∙ stable x ∙ filter-along tie of_x same xs

  pub of-head : (t : ℕ) (x : X) (xs : List X) → key x ≡ t → of t (x ∷ xs) ≡ x ∷ of t xs
  of-head t x xs e = cond-true (key x == t) (x ∷ of t xs) (of t xs) (eq-eqb (key x) t e)

  pub of-other : (t : ℕ) (x : X) (xs : List X) → key x ≢ t → of t (x ∷ xs) ≡ of t xs
  of-other t x xs apart = cond-false (key x == t) (x ∷ of t xs) (of t xs) (ne_eqb (key x) t apart)

  -- ---- lists that ascend

  -- each element's number is at most that of all behind it
  abbrev pub Ascends : List X → Type 0
  Ascends [] = Unit {0}
  Ascends (x ∷ xs) = AllByRecursion (λ y. key x ≤ key y) xs × Ascends xs

  above : (n : ℕ) (xs : List X) → ((j : ℕ) (d : X) → j < length xs → n ≤ key (get_or xs j d)) → AllByRecursion (λ y. n ≤ key y) xs
  above n [] each = tt
  above n (x ∷ xs) each = (each 0 x (omega arith), above n xs (λ j d lt. each (suc j) d (omega (arith, lt))))

  pub ascends-from : (xs : List X) → IsNonDecreasingBy key xs → Ascends xs
  ascends-from [] up = tt
  ascends-from (x ∷ xs) up = (
    above (key x) xs (λ j d lt. up 0 (suc j) d (omega arith) (omega (arith, lt))),
    ascends-from xs (λ i j d le lt. up (suc i) (suc j) d (omega (arith, le)) (omega (arith, lt))),
  )

  -- a number below all has no element
  none-of : (t n : ℕ) (xs : List X) → t < n → AllByRecursion (λ y. n ≤ key y) xs → of t xs ≡ []
  none-of t n [] lt all = refl
  none-of t n (x ∷ xs) lt all = of-other t x xs (let le = all.0 in λ e. omega (arith, lt, le, e)) ∙ none-of t n xs lt all.1

  same-heads : (x y : X) (xs ys : List X) → AllByRecursion (λ z. key y ≤ key z) ys → ((t : ℕ) → of t (x ∷ xs) ≡ of t (y ∷ ys)) → key x < key y → ⊥
  same-heads x y xs ys all same lt =
      let e : x ∷ of (key x) xs ≡ [] =
      sym (of-head (key x) x xs refl) ∙ same (key x) ∙ of-other (key x) y ys (λ f. omega (arith, lt, f)) ∙ none-of (key x) (key y) ys lt all in
      absurd cc

  tails : (x y : X) (xs ys : List X) → key x ≡ key y → ((t : ℕ) → of t (x ∷ xs) ≡ of t (y ∷ ys)) → (t : ℕ) → of t xs ≡ of t ys
  tails x y xs ys e same t =
      elim (cases_Bool (key x == t)) [
        | inl is ↦
            let here = eqb-true (key x) t is in
            ap (λ (zs : List X). drop 1 zs) (sym (of-head t x xs here) ∙ same t ∙ of-head t y ys (sym e ∙ here))
        | inr apart ↦
            let other = eqb-false (key x) t apart in
            sym (of-other t x xs other) ∙ same t ∙ of-other t y ys (λ f. other (e ∙ f))
      ]

  both : (x y : X) (xs ys : List X) → x ≡ y → xs ≡ ys → x ∷ xs ≡ y ∷ ys
  both x y xs ys e f = cc

  -- two that ascend, with the same of each number, are one
  pub alike : (xs ys : List X) → Ascends xs → Ascends ys → ((t : ℕ) → of t xs ≡ of t ys) → xs ≡ ys
  alike [] [] up down same = refl
  alike [] (y ∷ ys) up down same =
      let e : [] ≡ y ∷ of (key y) ys = same (key y) ∙ of-head (key y) y ys refl in
      absurd cc
  alike (x ∷ xs) [] up down same =
      let e : x ∷ of (key x) xs ≡ [] = sym (of-head (key x) x xs refl) ∙ same (key x) in
      absurd cc
  alike (x ∷ xs) (y ∷ ys) up down same =
      elim (cases_order (key x) (key y)) [
        | inl e ↦
            let heads = sym (of-head (key x) x xs refl) ∙ same (key x) ∙ of-head (key x) y ys (sym e) in
            both x y xs ys (ap (λ (zs : List X). get_or zs 0 x) heads) (alike xs ys up.1 down.1 (tails x y xs ys e same))
        | inr (inl lt) ↦ absurd (same-heads x y xs ys down.0 same lt)
        | inr (inr gt) ↦ absurd (same-heads y x ys xs up.0 (λ t. sym (same t)) gt)
      ]

  -- a list has one stable sort
  pub one-order : (at : ℕ → X) → ((t : ℕ) → key (at t) ≡ t) → (drawn xs ys : List X) → IsNonDecreasingBy key xs → IsNonDecreasingBy key ys
      → IsStableByKey key nat_cmp drawn xs → IsStableByKey key nat_cmp drawn ys → xs ≡ ys
  one-order at is drawn xs ys up down one two =
      alike xs ys (ascends-from xs up) (ascends-from ys down)
      (λ t. subst (λ (k : ℕ). of k xs ≡ of k ys) (is t) (of-kept drawn xs (at t) one ∙ sym (of-kept drawn ys (at t) two)))
