-- The order has the entries of the list that ascends, whatever a call takes out, changes or adds.
use Rattle.std.proofs.Common.{◌≡◌, ℕ, suc, ◌+◌, ◌<◌, Bool, true, false, not, ◌==◌, cond, List, [], ◌∷◌, filter, sum_by, length, get_or, Some, refl, sym, ◌∙◌, ap, subst, arith, inl, inr, zero-add}
use Rattle.std.specs.Prelude.{remove}
use Rattle.std.specs.List.Sorted.{IsPermutation}
use Rattle.std.proofs.lemmas.{Bool.cases_Bool, Bool.cases_order, Bool.eq-eqb, Bool.ne_eqb, List.Sums.sum_by-cons, List.Sorted.IsPermutation-cons, List.Sorted.IsPermutation-refl, List.Sorted.IsPermutation-remove, List.Sorted.IsPermutation-sym, List.Sorted.IsPermutation-trans, List.Sorted.IsPermutation-swap, List.Sorted.sum_by-IsPermutation}
use Rattle.srp_base.specs.declared.numbers.StreamId.{StreamId}
use Rattle.stream_importance.specs.declared.{entry.Entry.Entry, entry.Want.Want}
use Rattle.port_ledger.specs.{stream_of, IsAscending, entry_of, same_entry, same_want, unbooked_entry, with_want, without, has_same, has_want}
use Rattle.port_ledger.proofs.{Finding.with_want-higher, Finding.with_want-lower, Finding.with_want-same, PerStream.same_entry-is, PerStream.same_entry-refl, Running.all_with, TakingOut.without-others}

abbrev one : Entry → ℕ
one y = 1

-- one for x, and nothing for others
abbrev one_for : Entry → Entry → ℕ
one_for x y = cond (same_entry x y) 1 0

-- how many of the entries are x
abbrev count : Entry → List Entry → ℕ
count x xs = sum_by (one_for x) xs

-- an entry that is counted has a place
counted : (x : Entry) (ys : List Entry) → 0 < count x ys
    → (i : ℕ) × (i < length ys) × (x ≡ get_or ys i x)
counted x [] h = absurd (omega (arith, h))
counted x (y ∷ ys) h =
    elim (cases_Bool (same_entry x y)) [
      | inl e ↦ (0, omega arith, same_entry-is x y e)
      | inr e ↦
          (let parts : count x (y ∷ ys) ≡ one_for x y + count x ys = sum_by-cons (one_for x) y ys in
          let none : one_for x y ≡ 0 = ap (λ v. cond v 1 0) e in
          let found = counted x ys (omega (arith, h, parts, none)) in
          (suc found.0, omega (arith, found.1), found.2))
    ]

-- two lists of which every sum comes to the same have the same entries
permuted_from_sums : (xs ys : List Entry) → ((f : Entry → ℕ) → sum_by f ys ≡ sum_by f xs) → IsPermutation xs ys
permuted_from_sums [] [] h = IsPermutation-refl []
permuted_from_sums [] (y ∷ ys) h =
    let all : sum_by one (y ∷ ys) ≡ 0 = h one in
    let parts : sum_by one (y ∷ ys) ≡ 1 + sum_by one ys = one_more y ys in
    absurd (omega (arith, all, parts))
  where
    one_more : (z : Entry) (zs : List Entry) → sum_by one (z ∷ zs) ≡ 1 + sum_by one zs
    one_more z zs = sum_by-cons one z zs
permuted_from_sums (x ∷ xs) ys h =
    let parts : count x (x ∷ xs) ≡ one_for x x + count x xs = sum_by-cons (one_for x) x xs in
    let own : one_for x x ≡ 1 = ap (λ v. cond v 1 0) (same_entry-refl x) in
    let found = counted x ys (omega (arith, h (one_for x), parts, own)) in
    let moved : IsPermutation ys (x ∷ remove ys found.0) = IsPermutation-remove ys found.0 x found.1 found.2 in
    let rest : (f : Entry → ℕ) → sum_by f (remove ys found.0) ≡ sum_by f xs =
    λ f. omega (arith, h f, sum_by-IsPermutation f ys (x ∷ remove ys found.0) moved, sum_by-cons f x xs, sum_by-cons f x (remove ys found.0)) in
    IsPermutation-trans (x ∷ xs) (x ∷ remove ys found.0) ys (IsPermutation-cons x xs (remove ys found.0) (permuted_from_sums xs (remove ys found.0) rest))
    (IsPermutation-sym ys (x ∷ remove ys found.0) moved)

sum_by-filter : (f : Entry → ℕ) (p : Entry → Bool) (xs : List Entry)
    → sum_by f (filter p xs) ≡ sum_by (λ x. cond (p x) (f x) 0) xs
sum_by-filter f p [] = refl
sum_by-filter f p (x ∷ xs) =
    by_test (p x) ∙ (ap (λ n. cond (p x) (f x) 0 + n) (sum_by-filter f p xs) ∙ sym (sum_by-cons (λ y. cond (p y) (f y) 0) x xs))
  where
    by_test : (v : Bool) → sum_by f (cond v (x ∷ filter p xs) (filter p xs)) ≡ cond v (f x) 0 + sum_by f (filter p xs)
    by_test true = sum_by-cons f x (filter p xs)
    by_test false = sym (zero-add (sum_by f (filter p xs)))

pub filter_permuted : (p : Entry → Bool) (xs ys : List Entry) → IsPermutation xs ys → IsPermutation (filter p xs) (filter p ys)
filter_permuted p xs ys moved = grind (arith, permuted_from_sums, sum_by-filter, sum_by-IsPermutation)

pub without_permuted : (es order : List Entry) (stream : StreamId) → IsPermutation es order
    → IsPermutation (without es stream) (without order stream)
without_permuted es order stream p = filter_permuted (λ x. not (stream_of x == stream.0)) es order p

-- a want comes in place of what its stream wanted, which was another
pub with_want_exchanged : (want : Want) (xs : List Entry) → IsAscending xs → has_want xs want ≡ false
    → IsPermutation (with_want xs want) (unbooked_entry want ∷ without xs want.stream)
with_want_exchanged want [] up other = IsPermutation-refl (unbooked_entry want ∷ [])
with_want_exchanged want (x ∷ xs) up other =
    elim (cases_order want.stream.0 (stream_of x)) [
      | inl same ↦
          (let here : stream_of x == want.stream.0 ≡ true = eq-eqb (stream_of x) want.stream.0 (sym same) in
          let unlike : same_want x.want want ≡ false = sym (ap (λ v. has_same (cond v (Some x) (entry_of xs want.stream)) want) here) ∙ other in
          let whole : with_want (x ∷ xs) want ≡ unbooked_entry want ∷ without (x ∷ xs) want.stream =
          with_want-same x xs want (sym same)
          ∙ (ap (λ v. cond v x (unbooked_entry want) ∷ xs) unlike
          ∙ (ap (λ ys. unbooked_entry want ∷ ys) (without-others want.stream xs (all_with xs up.0 up.0 (λ y l _ e. omega (arith, same, l, e))))
          ∙ ap (λ v. unbooked_entry want ∷ cond (not v) (x ∷ without xs want.stream) (without xs want.stream)) (sym here))) in
          subst (λ (ys : List Entry). IsPermutation ys (unbooked_entry want ∷ without (x ∷ xs) want.stream)) (sym whole) (IsPermutation-refl (unbooked_entry want ∷ without (x ∷ xs) want.stream)))
      | inr c ↦ elim c [
        | inl lower ↦
            (let whole : with_want (x ∷ xs) want ≡ unbooked_entry want ∷ without (x ∷ xs) want.stream =
            with_want-lower x xs want lower
            ∙ ap (λ ys. unbooked_entry want ∷ ys) (without-others want.stream (x ∷ xs) ((λ e. omega (arith, lower, e)), all_with xs up.0 up.0 (λ y l _ e. omega (arith, lower, l, e)))) in
            subst (λ (ys : List Entry). IsPermutation ys (unbooked_entry want ∷ without (x ∷ xs) want.stream)) (sym whole) (IsPermutation-refl (unbooked_entry want ∷ without (x ∷ xs) want.stream)))
        | inr higher ↦
            (let past : stream_of x == want.stream.0 ≡ false = ne_eqb (stream_of x) want.stream.0 (λ f. omega (arith, f, higher)) in
            let rest : has_want xs want ≡ false = sym (ap (λ v. has_same (cond v (Some x) (entry_of xs want.stream)) want) past) ∙ other in
            let left : x ∷ without xs want.stream ≡ without (x ∷ xs) want.stream = ap (λ v. cond (not v) (x ∷ without xs want.stream) (without xs want.stream)) (sym past) in
            subst (λ (ys : List Entry). IsPermutation ys (unbooked_entry want ∷ without (x ∷ xs) want.stream)) (sym (with_want-higher x xs want higher))
            (subst (λ (ys : List Entry). IsPermutation (x ∷ with_want xs want) (unbooked_entry want ∷ ys)) left
            (IsPermutation-trans (x ∷ with_want xs want) (x ∷ unbooked_entry want ∷ without xs want.stream) (unbooked_entry want ∷ x ∷ without xs want.stream)
            (IsPermutation-cons x (with_want xs want) (unbooked_entry want ∷ without xs want.stream) (with_want_exchanged want xs up.1 rest))
            (IsPermutation-swap (x ∷ unbooked_entry want ∷ without xs want.stream) (unbooked_entry want ∷ x ∷ without xs want.stream) 0 1 (omega arith) (omega arith) refl))))
      ]
    ]
