-- Lists that ascend by a number of their elements.
use Rattle.std.proofs.Common.{◌≡◌, ℕ, zero, suc, ◌-◌, ◌<◌, ◌≤◌, inl, inr, Bool, true, false, List, [], ◌∷◌, length, get_or, map, Option, Some, None, refl, sym, ◌∙◌, ap, subst, arith}
use Rattle.std.specs.Prelude.{All, AllPairs, find, filter, ◌==◌}
use Rattle.std.specs.{List.AllWithin, List.HoldsAt, List.Sorted.IsNonDecreasingBy, List.Sorted.IsStableByKey, Ordering.nat_cmp}
use Rattle.std.proofs.lemmas.{Bool.cond-true, Bool.cond-false, Bool.cases_Bool, Bool.cases_lt, Bool.eq-eqb, Bool.ne_eqb, List.get_or_default, List.get_or-map, List.length-map, List.Elements.All-head, List.Elements.All-tail}
use Rattle.srp_base.proofs.SortLemmas.{of-kept}

-- ---- the first element that a test passes

pub find-here : {X : Type 0} (p : X → Bool) (xs : List X) (i : ℕ) (d : X) → i < length xs → ((k : ℕ) → k < i → p (get_or xs k d) ≡ false)
    → p (get_or xs i d) ≡ true → find p xs ≡ Some (get_or xs i d)
find-here p [] i d below before is = absurd (omega (arith, below))
find-here p (x ∷ xs) zero d below before is = cond-true (p x) (Some x) (find p xs) is
find-here p (x ∷ xs) (suc i) d below before is =
    cond-false (p x) (Some x) (find p xs) (before zero (omega arith))
    ∙ find-here p xs i d (omega (arith, below)) (λ k lt. before (suc k) (omega (arith, lt))) is

pub find-nowhere : {X : Type 0} (p : X → Bool) (xs : List X) → All (λ x. p x ≡ false) xs → find p xs ≡ None
find-nowhere p [] all = refl
find-nowhere {X} p (x ∷ xs) all =
    let P : X → Type 0 = λ t. p t ≡ false in
    cond-false (p x) (Some x) (find p xs) (All-head P x xs all) ∙ find-nowhere p xs (All-tail P x xs all)

-- ---- where a number begins

pub rises : {X : Type 0} (n : X → ℕ) (xs : List X) → AllPairs (λ x y. n x < n y) xs → IsNonDecreasingBy n xs
rises n xs up i j d le below =
    elim (cases_lt i j) [
      | inl lt ↦ omega (arith, up i j d lt below)
      | inr ge ↦ (let same : i ≡ j = omega (arith, le, ge) in subst (λ (k : ℕ). n (get_or xs i d) ≤ n (get_or xs k d)) same (omega arith))
    ]

pub unmapped : {X Y : Type 0} (R : Y → Y → Type 0) (to : X → Y) (xs : List X) → AllPairs R (map to xs) → AllPairs (λ x y. R (to x) (to y)) xs
unmapped {X} {Y} R to xs pairs i j d lt below =
    let one = get_or-map to xs i d (to d) (omega (arith, lt, below)) in
    let two = get_or-map to xs j d (to d) below in
    let there : R (get_or (map to xs) i (to d)) (get_or (map to xs) j (to d)) = pairs i j (to d) lt (omega (arith, below, length-map xs to)) in
    subst (λ (t : Y). R (to (get_or xs i d)) t) two (subst (λ (t : Y). R t (get_or (map to xs) j (to d))) one there)

-- an index at which a number begins
pub begun-before : {X : Type 0} (n : X → ℕ) (xs : List X) (number at : ℕ) → IsNonDecreasingBy n xs → at < length xs
    → (0 < at → HoldsAt (λ x. n x < number) xs (at - 1)) → AllWithin (λ x. n x < number) xs 0 at
begun-before n xs number at up few below k d from lt =
    omega (arith, up k (at - 1) d (omega (arith, lt)) (omega (arith, few)), below (omega (arith, lt)) d)

pub begun-after : {X : Type 0} (n : X → ℕ) (xs : List X) (number at : ℕ) → IsNonDecreasingBy n xs → HoldsAt (λ x. n x ≡ number) xs at
    → AllWithin (λ x. number ≤ n x) xs at (length xs)
begun-after n xs number at up here k d from lt = omega (arith, up at k d from lt, here d)

-- the first element of a number, where there is one and where there is none
pub found-first : {X : Type 0} (n : X → ℕ) (xs : List X) (number at : ℕ) (d : X) → AllWithin (λ x. n x < number) xs 0 at
    → (at < length xs) × HoldsAt (λ x. n x ≡ number) xs at → find (λ x. n x == number) xs ≡ Some (get_or xs at d)
found-first n xs number at d before here =
    find-here (λ x. n x == number) xs at d here.0
    (λ k lt. ne_eqb (n (get_or xs k d)) number (λ e. omega (arith, before k d (omega arith) lt, e)))
    (eq-eqb (n (get_or xs at d)) number (here.1 d))

pub unfound-first : {X : Type 0} (n : X → ℕ) (xs : List X) (number at : ℕ) → IsNonDecreasingBy n xs → AllWithin (λ x. n x < number) xs 0 at
    → AllWithin (λ x. number ≤ n x) xs at (length xs) → ((at < length xs) × HoldsAt (λ x. n x ≡ number) xs at → ⊥) → find (λ x. n x == number) xs ≡ None
unfound-first {X} n xs number at up before after other =
    find-nowhere (λ x. n x == number) xs (λ k d below. ne_eqb (n (get_or xs k d)) number
    (λ e. elim (cases_lt k at) [
      | inl lt ↦ absurd (omega (arith, before k d (omega arith) lt, e))
      | inr ge ↦ (
          let few : at < length xs = omega (arith, ge, below) in
          let same : n (get_or xs at d) ≡ number = omega (arith, up at k d ge below, after at d (omega arith) few, e) in
          absurd (other (few, λ f. subst (λ (x : X). n x ≡ number) (get_or_default xs at d f few) same)))
    ]))

-- ---- a stable sort by a number

abbrev first_of : {X : Type 0} → List X → Option X
first_of [] = None
first_of (x ∷ xs) = Some x

find-filter : {X : Type 0} (p : X → Bool) (xs : List X) → find p xs ≡ first_of (filter p xs)
find-filter p [] = refl
find-filter {X} p (x ∷ xs) =
    elim (cases_Bool (p x)) [
      | inl is ↦ cond-true (p x) (Some x) (find p xs) is ∙ sym (ap (λ (t : List X). first_of t) (cond-true (p x) (x ∷ filter p xs) (filter p xs) is))
      | inr nay ↦ cond-false (p x) (Some x) (find p xs) nay ∙ find-filter p xs
          ∙ sym (ap (λ (t : List X). first_of t) (cond-false (p x) (x ∷ filter p xs) (filter p xs) nay))
    ]

pub found-sorted : {X : Type 0} (n : X → ℕ) (xs ys : List X) (x : X) → IsStableByKey n nat_cmp xs ys → find (λ y. n y == n x) ys ≡ find (λ y. n y == n x) xs
found-sorted {X} n xs ys x stable =
    let of_x : X → Bool = λ y. n y == n x in
    find-filter of_x ys ∙ ap (λ (t : List X). first_of t) (of-kept n xs ys x stable) ∙ sym (find-filter of_x xs)
