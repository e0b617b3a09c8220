-- The entries in the order of importance, and what doesn't depend on the order of a list.
use Rattle.std.proofs.Common.{◌≡◌, ◌≢◌, ◌⊎◌, ℕ, ◌+◌, ◌≤◌, Bool, true, false, not, ◌==◌, cond, List, [], ◌∷◌, refl, sym, ◌∙◌, ap, subst, arith, inl, inr, true≢false, zero-add}
use Rattle.std.specs.Prelude.{nat_le}
use Rattle.std.specs.{List.AllByRecursion, List.Sorted.IsPermutation}
use Rattle.std.proofs.lemmas.{List.Sorted.IsPermutation-refl, List.Sorted.IsPermutation-cons, List.Sorted.IsPermutation-swap, List.Sorted.IsPermutation-trans, List.Sorted.All-permutation, List.Sorted.sum_by-IsPermutation, List.Elements.All-from_recursion, List.Elements.recursion_from_All, List.Recursion.is_sum_by, Bool.ne_eqb, Bool.eq-eqb, Bool.and_parts, Bool.and_from, Bool.not_from_false, Bool.cases_Bool, Bool.eqb-true}
use Rattle.stream_importance.specs.declared.{entry.Entry.Entry, slope.Caps.Caps}
use Rattle.stream_importance.specs.{Bandwidth.cap_of, Importance.is_more_important, Importance.IsImportanceOrder}
use Rattle.port_ledger.specs.{stream_of, entry_slope, comes_after, AreOfDifferentStreams, place, importance_order}
use Rattle.port_ledger.proofs.Running.{part, IsRanked, Holds, all_with}

-- of two entries of different streams one goes before the other
goes_either_way : (now : ℕ) (o : IsImportanceOrder now) (x y : Entry) → stream_of x ≢ stream_of y
    → (comes_after now y x ≡ true) ⊎ (comes_after now x y ≡ true)
goes_either_way now o x y ne =
    elim (o.total x y ne) [
      | inl h ↦ inl (and_from (not (stream_of x == stream_of y)) (is_more_important now x y) (not_from_false (stream_of x == stream_of y) (ne_eqb (stream_of x) (stream_of y) ne)) h)
      | inr h ↦ inr (and_from (not (stream_of y == stream_of x)) (is_more_important now y x) (not_from_false (stream_of y == stream_of x) (ne_eqb (stream_of y) (stream_of x) (λ e. ne (sym e)))) h)
    ]

goes_far : (now : ℕ) (o : IsImportanceOrder now) (x y z : Entry) → stream_of x ≢ stream_of z
    → comes_after now y x ≡ true → comes_after now z y ≡ true → comes_after now z x ≡ true
goes_far now o x y z ne h k = grind (arith, and_from, not_from_false, ne_eqb, and_parts)

-- what is placed is among the others
IsPermutation-place : (now : ℕ) (x : Entry) (ys : List Entry) → IsPermutation (x ∷ ys) (place now x ys)
IsPermutation-place now x [] = IsPermutation-refl (x ∷ [])
IsPermutation-place now x (y ∷ ys) =
    elim (comes_after now y x) as (λ v. IsPermutation (x ∷ y ∷ ys) (cond v (x ∷ y ∷ ys) (y ∷ place now x ys))) [
      | true ↦ IsPermutation-refl (x ∷ y ∷ ys)
      | false ↦ IsPermutation-trans (x ∷ y ∷ ys) (y ∷ x ∷ ys) (y ∷ place now x ys)
          (IsPermutation-swap (x ∷ y ∷ ys) (y ∷ x ∷ ys) 0 1 (omega arith) (omega arith) refl)
          (IsPermutation-cons y (x ∷ ys) (place now x ys) (IsPermutation-place now x ys))
    ]

pub IsPermutation-ranked : (now : ℕ) (xs : List Entry) → IsPermutation xs (importance_order now xs)
IsPermutation-ranked now [] = IsPermutation-refl []
IsPermutation-ranked now (x ∷ xs) =
    IsPermutation-trans (x ∷ xs) (x ∷ importance_order now xs) (place now x (importance_order now xs))
    (IsPermutation-cons x xs (importance_order now xs) (IsPermutation-ranked now xs)) (IsPermutation-place now x (importance_order now xs))

-- a fact of each element is one of each element in another order
pub all_permuted : {X : Type 0} (P : X → Type 0) (xs ys : List X) → IsPermutation xs ys → AllByRecursion P xs
    → AllByRecursion P ys
all_permuted P xs ys p h = recursion_from_All P ys (All-permutation P xs ys p (All-from_recursion P xs h))

ranked-place : (now : ℕ) (o : IsImportanceOrder now) (x : Entry) (ys : List Entry)
    → AllByRecursion (λ y. stream_of x ≢ stream_of y) ys → IsRanked now ys → IsRanked now (place now x ys)
ranked-place now o x [] ne r = (tt, tt)
ranked-place now o x (y ∷ ys) ne r =
    elim (cases_Bool (comes_after now y x)) [
      | inl h ↦ subst (λ (v : Bool). IsRanked now (cond v (x ∷ y ∷ ys) (y ∷ place now x ys))) (sym h)
          ((h, all_with ys ne.1 r.0 (λ z other later. goes_far now o x y z other h later)), r)
      | inr h ↦ subst (λ (v : Bool). IsRanked now (cond v (x ∷ y ∷ ys) (y ∷ place now x ys))) (sym h)
          (let first : comes_after now x y ≡ true =
          elim (goes_either_way now o x y ne.0) [ inl k ↦ absurd (true≢false (sym k ∙ h)) | inr k ↦ k ] in
          (all_permuted (λ z. comes_after now z y ≡ true) (x ∷ ys) (place now x ys) (IsPermutation-place now x ys) (first, r.0), ranked-place now o x ys ne.1 r.1))
    ]

pub ranked_is_ranked : (now : ℕ) (o : IsImportanceOrder now) (xs : List Entry) → AreOfDifferentStreams xs
    → IsRanked now (importance_order now xs)
ranked_is_ranked now o [] different = tt
ranked_is_ranked now o (x ∷ xs) different =
    ranked-place now o x (importance_order now xs) (all_permuted (λ y. stream_of x ≢ stream_of y) xs (importance_order now xs) (IsPermutation-ranked now xs) different.0)
    (ranked_is_ranked now o xs different.1)

abbrev one_if : Bool → ℕ
one_if true = 1
one_if false = 0

-- how many entries a stream has
abbrev copies : ℕ → List Entry → ℕ
copies stream [] = 0
copies stream (x ∷ xs) = one_if (stream_of x == stream) + copies stream xs

copies-none : (stream : ℕ) (xs : List Entry) → AllByRecursion (λ y. stream ≢ stream_of y) xs → copies stream xs ≡ 0
copies-none stream [] ne = refl
copies-none stream (x ∷ xs) ne = grind (arith, copies-none stream xs ne.1, ne_eqb, zero-add)

none_from_copies : (stream : ℕ) (xs : List Entry) → copies stream xs ≡ 0 → AllByRecursion (λ y. stream ≢ stream_of y) xs
none_from_copies stream [] h = tt
none_from_copies stream (x ∷ xs) h = grind (arith, none_from_copies stream xs (omega (arith, h)), eq-eqb)

copies_at_most : (xs : List Entry) → AreOfDifferentStreams xs → (stream : ℕ) → copies stream xs ≤ 1
copies_at_most [] different stream = omega arith
copies_at_most (x ∷ xs) different stream =
    elim (cases_Bool (stream_of x == stream)) [
      | inl h ↦
          (let e : stream_of x ≡ stream = eqb-true (stream_of x) stream h in
          let none : copies stream xs ≡ 0 = copies-none stream xs (subst (λ (s : ℕ). AllByRecursion (λ y. s ≢ stream_of y) xs) e different.0) in
          let one : one_if (stream_of x == stream) ≡ 1 = ap one_if h in
          omega (arith, none, one))
      | inr h ↦
          (let zero' : one_if (stream_of x == stream) ≡ 0 = ap one_if h in
          omega (arith, zero', copies_at_most xs different.1 stream))
    ]

different_from_copies : (xs : List Entry) → ((stream : ℕ) → copies stream xs ≤ 1) → AreOfDifferentStreams xs
different_from_copies [] h = tt
different_from_copies (x ∷ xs) h = grind (arith, different_from_copies xs (λ s. omega (arith, h s)), eq-eqb, none_from_copies)

pub different_permuted : (xs ys : List Entry) → IsPermutation xs ys → AreOfDifferentStreams xs
    → AreOfDifferentStreams ys
different_permuted xs ys p different =
    different_from_copies ys
    (λ s. let f : Entry → ℕ = λ e. one_if (stream_of e == s) in
    let same : copies s ys ≡ copies s xs =
    is_sum_by (copies s) f refl (λ _ _. refl) ys ∙ (sum_by-IsPermutation f xs ys p ∙ sym (is_sum_by (copies s) f refl (λ _ _. refl) xs)) in
    omega (arith, same, copies_at_most xs different s))

-- what a kind of entries takes comes to the same in another order
pub part-IsPermutation : (b kind : Entry → Bool) (xs ys : List Entry) → IsPermutation xs ys
    → part b kind ys ≡ part b kind xs
part-IsPermutation b kind xs ys p =
    let f : Entry → ℕ = λ e. cond (b e) (cond (kind e) (entry_slope e) 0) 0 in
    is_sum_by (part b kind) f refl (λ _ _. refl) ys ∙ (sum_by-IsPermutation f xs ys p ∙ sym (is_sum_by (part b kind) f refl (λ _ _. refl) xs))

pub holds_permuted : (now : ℕ) (caps : Caps) (sum : ℕ) (b : Entry → Bool) (xs ys : List Entry)
    → IsPermutation xs ys → AllByRecursion (Holds now caps sum b xs) xs
    → AllByRecursion (Holds now caps sum b ys) ys
holds_permuted now caps sum b xs ys p h =
    let moved : AllByRecursion (Holds now caps sum b xs) ys = all_permuted (Holds now caps sum b xs) xs ys p h in
    all_with ys moved moved (λ x k _. k ∙ ap (λ n. nat_le (sum + n + entry_slope x) (cap_of caps x.want.class)) (sym (part-IsPermutation b (comes_after now x) xs ys p)))
