-- What comes in windows.
use Rattle.std.proofs.Common.{◌≡◌, ℕ, zero, suc, ◌+◌, ◌-◌, ◌*◌, ◌≤◌, Bool, true, cond, List, [], ◌∷◌, get_or, Option, Some, None, refl, ◌∙◌, ap, inl, inr, arith}
use Rattle.std.specs.Prelude.{All, Any, sum_by, filter}
use Rattle.std.proofs.Math.Nat.{mul-le-mul_left}
use Rattle.std.proofs.lemmas.Bool.{cases_Bool, cond-true, cond-false}
use Rattle.std.proofs.lemmas.Bool.Decides.{nat_tests}
use Rattle.std.proofs.lemmas.List.Sums.{sum_by-cons, get_or-le-sum_by}
use Rattle.std.proofs.lemmas.List.Elements.{All-head, All-tail}
use Rattle.delay_bound.specs.declared.bound.Bound.{Bound}
use Rattle.delay_bound.specs.declared.bound.Group.{Group}
use Rattle.delay_bound.specs.Bounds.{second, given_in, least_in, brought_in, bounds_of}
use Rattle.delay_bound.specs.Windows.{is_within, bits_within, IsBoundBy, ComesFrom, AreBoundBy, AreGroups}

-- ---- sums

pub sum_no_more : {F : Type 0} (f g : F → ℕ) (fs : List F) → All (λ x. f x ≤ g x) fs → sum_by f fs ≤ sum_by g fs
sum_no_more f g [] all = omega arith
sum_no_more {F} f g (x ∷ xs) all =
    let P : F → Type 0 = λ t. f t ≤ g t in
    omega (arith, sum_by-cons f x xs, sum_by-cons g x xs, All-head P x xs all, sum_no_more f g xs (All-tail P x xs all))

pub sum_both : {F : Type 0} (f g : F → ℕ) (fs : List F) → sum_by (λ x. f x + g x) fs ≡ sum_by f fs + sum_by g fs
sum_both f g [] = refl
sum_both f g (x ∷ xs) = omega (arith, sum_by-cons (λ t. f t + g t) x xs, sum_by-cons f x xs, sum_by-cons g x xs, sum_both f g xs)

pub sum_same : {F : Type 0} (f g : F → ℕ) (fs : List F) → ((x : F) → f x ≡ g x) → sum_by f fs ≡ sum_by g fs
sum_same f g [] same = refl
sum_same f g (x ∷ xs) same = omega (arith, sum_by-cons f x xs, sum_by-cons g x xs, same x, sum_same f g xs same)

-- ---- a bound at a further place

one_in : (from to least gap n : ℕ) (a b : Option ℕ) → ComesFrom least gap a b
    → cond (is_within from to b) n 0 ≤ cond (is_within (from - (least + gap)) (to - least) a) n 0
one_in from to least gap n a None comes = omega arith
one_in from to least gap n None (Some b) comes = absurd comes
one_in from to least gap n (Some a) (Some b) comes = grind (arith, nat_tests)

pub bound_on : {F : Type 0} (bits : F → ℕ) (here there : F → Option ℕ) (base slope least gap : ℕ) (fs : List F)
    → IsBoundBy bits here base slope fs → All (λ f. ComesFrom least gap (here f) (there f)) fs
    → IsBoundBy bits there (base + slope * gap) slope fs
bound_on bits here there base slope least gap fs bound comes from to up =
    let fewer : bits_within bits there from to fs ≤ bits_within bits here (from - (least + gap)) (to - least) fs =
    sum_no_more (λ f. cond (is_within from to (there f)) (bits f) 0) (λ f. cond (is_within (from - (least + gap)) (to - least) (here f)) (bits f) 0) fs
    (λ k d lt. one_in from to least gap (bits (get_or fs k d)) (here (get_or fs k d)) (there (get_or fs k d)) (comes k d lt)) in
    let most = bound (from - (least + gap)) (to - least) (omega (arith, up)) in
    let wide : slope * ((to - least) - (from - (least + gap))) ≤ slope * ((to - from) + gap) = mul-le-mul_left slope (omega (arith, up)) in
    omega (arith, fewer, most, wide)

-- ---- groups

least_over : (n span : ℕ) (first : Bound) (more : List Bound) → n ≤ given_in span first → All (λ b. n ≤ given_in span b) more → n ≤ least_in span first more
least_over n span first [] one all = one
least_over n span first (b ∷ bs) one all =
    let P : Bound → Type 0 = λ t. n ≤ given_in span t in
    omega (arith, All-head P b bs all, least_over n span first bs one (All-tail P b bs all))

group_brings : {F : Type 0} (bits : F → ℕ) (at : F → Option ℕ) (fs : List F) (g : Group) (from to : ℕ) → AreBoundBy bits at fs (bounds_of g) → from ≤ to
    → bits_within bits at from to fs * second ≤ least_in (to - from) g.first g.more
group_brings bits at fs g from to bound up =
    least_over (bits_within bits at from to fs * second) (to - from) g.first g.more
    (bound zero g.first (omega arith) from to up)
    (λ k d lt. bound (suc k) d (omega (arith, lt)) from to up)

pub groups_bring : {F : Type 0} (bits : F → ℕ) (at : F → Option ℕ) (tests : List (F → Bool)) (groups : List Group) (fs : List F) (from to : ℕ)
    → AreGroups bits at fs tests groups → from ≤ to
    → sum_by (λ test. bits_within bits at from to (filter test fs)) tests * second ≤ brought_in groups (to - from)
groups_bring bits at [] groups fs from to are up = omega arith
groups_bring bits at (test ∷ tests) [] fs from to are up = absurd are
groups_bring bits at (test ∷ tests) (g ∷ gs) fs from to are up =
    omega (
      arith,
      sum_by-cons (λ t. bits_within bits at from to (filter t fs)) test tests,
      sum_by-cons (λ t. least_in (to - from) t.first t.more) g gs,
      group_brings bits at (filter test fs) g from to are.0 up,
      groups_bring bits at tests gs fs from to are.1 up,
    )

-- ---- each in some group

filter_brings : {F : Type 0} (term : F → ℕ) (x : F) (xs : List F) (test : F → Bool)
    → sum_by term (filter test (x ∷ xs)) ≡ cond (test x) (term x) 0 + sum_by term (filter test xs)
filter_brings {F} term x xs test =
    elim (cases_Bool (test x)) [
      | inl is ↦ ap (λ (t : List F). sum_by term t) (cond-true (test x) (x ∷ filter test xs) (filter test xs) is)
          ∙ omega (arith, sum_by-cons term x (filter test xs), cond-true (test x) (term x) 0 is)
      | inr nay ↦ ap (λ (t : List F). sum_by term t) (cond-false (test x) (x ∷ filter test xs) (filter test xs) nay)
          ∙ omega (arith, cond-false (test x) (term x) 0 nay)
    ]

one_of : {F : Type 0} (tests : List (F → Bool)) (x : F) (n : ℕ) → Any (λ test. test x ≡ true) tests → n ≤ sum_by (λ test. cond (test x) n 0) tests
one_of {F} tests x n (k, test, lt, same, passes) =
    let T : (F → Bool) → ℕ = λ t. cond (t x) n 0 in
    let less = get_or-le-sum_by T tests k test lt in
    let here : T (get_or tests k test) ≡ n = ap T same ∙ cond-true (test x) n 0 passes in
    omega (arith, less, here)

pub each_in_group : {F : Type 0} (bits : F → ℕ) (at : F → Option ℕ) (tests : List (F → Bool)) (fs : List F) (from to : ℕ)
    → All (λ f. Any (λ test. test f ≡ true) tests) fs
    → bits_within bits at from to fs ≤ sum_by (λ test. bits_within bits at from to (filter test fs)) tests
each_in_group bits at tests [] from to all = omega arith
each_in_group {F} bits at tests (x ∷ xs) from to all =
    let P : F → Type 0 = λ f. Any (λ test. test f ≡ true) tests in
    let term : F → ℕ = λ f. cond (is_within from to (at f)) (bits f) 0 in
    let apart = sum_same (λ test. sum_by term (filter test (x ∷ xs))) (λ test. cond (test x) (term x) 0 + sum_by term (filter test xs)) tests
    (filter_brings term x xs) in
    let both = sum_both (λ test. cond (test x) (term x) 0) (λ test. sum_by term (filter test xs)) tests in
    omega (
      arith,
      sum_by-cons term x xs,
      apart,
      both,
      one_of tests x (term x) (All-head P x xs all),
      each_in_group bits at tests xs from to (All-tail P x xs all),
    )
