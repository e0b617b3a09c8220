-- Lists of one entry for each port: one place is set, or read where something holds at every place.
use Rattle.std.proofs.Common.{◌≡◌, ◌≢◌, ◌⊎◌, inl, inr, ℕ, zero, suc, ◌+◌, ◌<◌, ◌≤◌, Bool, true, false, ◌||◌, List, [], ◌∷◌, length, refl, sym, ap, subst, ◌∙◌, arith}
use Rattle.std.specs.Prelude.{slice_get, slice_set, Option, Some, None, option_map, nat_lt, ◌==◌}
use Rattle.std.specs.{Option.option_map_or, List.list_all, List.list_any, List.range_with_len}
use Rattle.std.proofs.lemmas.Bool.{or_right as true-right, or_left as true-left}
use Rattle.std.proofs.lemmas.Bool.Decides.{nat_tests}
use Rattle.srp_base.proofs.{Lists.get-set_same as get_set_same, Lists.get_set_other, Lists.get_set, Lists.get-all, Lists.no-length, Bools.or_true as or-cases, Arithmetic.decide, Arithmetic.same_or_below}

-- what holds of each element at its place holds where one is set
pub set_each : {X : Type 0} (P : ℕ → X → Type 0) (xs : List X) (at : ℕ) (t : X) → P at t → ((j : ℕ) (p : X) → slice_get xs j ≡ Some p → P j p)
    → (j : ℕ) (p : X) → slice_get (slice_set xs at t) j ≡ Some p → P j p
set_each {X = X} P xs at t h hs j p get = by (decide at j)
  where
    by : (at ≡ j) ⊎ (at ≢ j) → P j p
    by (inl e) =
        let is : t ≡ p = get_set_same xs at t p (ap (λ k. slice_get (slice_set xs at t) k) e ∙ get) in
        subst (λ (k : ℕ). P k p) e (subst (λ (x : X). P at x) is h)
    by (inr ne) = hs j p (sym (get_set_other xs at j t ne) ∙ get)

-- ---- an element at a place becomes another, where there is one

abbrev pub set_at : {X : Type 0} → ℕ → (X → X) → List X → List X
set_at at f xs = option_map_or (λ x. slice_set xs at (f x)) (slice_get xs at) xs

pub set_at_there : {X : Type 0} (at : ℕ) (f : X → X) (xs : List X) → slice_get (set_at at f xs) at ≡ option_map f (slice_get xs at)
set_at_there {X = X} at f xs = by (slice_get xs at) refl
  where
    by : (o : Option X) → slice_get xs at ≡ o → slice_get (option_map_or (λ x. slice_set xs at (f x)) o xs) at ≡ option_map f o
    by None is = is
    by (Some x) is = get_set xs at x (f x) is

pub set_at_other : {X : Type 0} (at k : ℕ) (f : X → X) (xs : List X) → at ≢ k → slice_get (set_at at f xs) k ≡ slice_get xs k
set_at_other {X = X} at k f xs ne = by (slice_get xs at)
  where
    by : (o : Option X) → slice_get (option_map_or (λ x. slice_set xs at (f x)) o xs) k ≡ slice_get xs k
    by None = refl
    by (Some x) = get_set_other xs at k (f x) ne

-- ---- a list of lists that are all empty

pub get-empty : {X : Type 0} (sets : List (List X)) (i : ℕ) (xs : List X) → list_all (λ ys. length ys == 0) sets ≡ true → slice_get sets i ≡ Some xs → xs ≡ []
get-empty sets i xs h e = no-length xs (get-all (λ ys. length ys == 0) sets i xs h e)

-- ---- a number of a range that passes a test

pub range-from : (test : ℕ → Bool) (n a y : ℕ) → a ≤ y → y < a + n → test y ≡ true → list_any test (range_with_len a n) ≡ true
range-from test zero a y low high h = absurd (omega arith)
range-from test (suc n) a y low high h =
    by (same_or_below a y low) (λ lt. let lower : y < a + 1 + n = omega arith in range-from test n (a + 1) y lt lower h)
  where
    by : (a ≡ y) ⊎ (a + 1 ≤ y) → (a + 1 ≤ y → list_any test (range_with_len (a + 1) n) ≡ true) → (test a || list_any test (range_with_len (a + 1) n)) ≡ true
    by (inl e) rest = true-left (test a) (list_any test (range_with_len (a + 1) n)) (ap test e ∙ h)
    by (inr lt) rest = true-right (test a) (list_any test (range_with_len (a + 1) n)) (rest lt)

pub range-at : (test : ℕ → Bool) (n a : ℕ) → list_any test (range_with_len a n) ≡ true → (y : ℕ) × (a ≤ y) × (y < a + n) × (test y ≡ true)
range-at test zero a h = cc
range-at test (suc n) a h = by (or-cases (test a) (list_any test (range_with_len (a + 1) n)) h) (λ e. range-at test n (a + 1) e)
  where
    by : (test a ≡ true) ⊎ (list_any test (range_with_len (a + 1) n) ≡ true)
        → (list_any test (range_with_len (a + 1) n) ≡ true → (y : ℕ) × (a + 1 ≤ y) × (y < a + 1 + n) × (test y ≡ true))
        → (y : ℕ) × (a ≤ y) × (y < a + suc n) × (test y ≡ true)
    by (inl e) rest = (a, omega arith, omega arith, e)
    by (inr e) rest = let r = rest e in (r.0, omega (arith, r.1), omega (arith, r.2), r.3)

-- ---- LeaveAll is said, or some event

pub some_or : {X : Type 0} (leave : Bool) (events : List X) → (leave ≡ false → events ≢ []) → (leave || nat_lt 0 (length events)) ≡ true
some_or true events says = refl
some_or false [] says = absurd (says refl refl)
some_or false (e ∷ events) says = grind (arith, nat_tests)
