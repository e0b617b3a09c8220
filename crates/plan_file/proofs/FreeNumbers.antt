-- The lowest free numbers are enough, and differ from one another and from those that are given.
use Rattle.std.proofs.Common.{◌≡◌, ◌≢◌, ◌∙◌, ℕ, zero, suc, ◌+◌, ◌<◌, ◌≤◌, Bool, true, false, not, ◌||◌, cond, List, [], ◌∷◌, refl, sym, ap, subst, Option, Some, None, option_map, length, map, filter, eqb, arith, get_or}
use Rattle.std.proofs.lemmas.{Bool.false≢true, Bool.or_parts, Bool.Decides.nat_tests, List.Elements.All-cons, List.Elements.All-head, List.Elements.All-nil, List.Elements.All-tail, List.Elements.All-weaker, List.Kept.AllPairs-cons, List.Kept.AllPairs-filter}
use Rattle.std.specs.List.{All}
use Rattle.std.specs.Prelude.{AllPairs}
use Rattle.plan_file.specs.{filled, free_numbers, is_given, is_number, numbers_from}

-- ---- numbers one after the other

pub numbers-below : (from count : ℕ) → All (λ n. (from ≤ n) × (n < from + count)) (numbers_from from count)
unfolding numbers_from
numbers-below from zero = All-nil (λ n. (from ≤ n) × (n < from + zero))
numbers-below from (suc count) =
    All-cons (λ n. (from ≤ n) × (n < from + suc count)) from (numbers_from (from + 1) count) (omega arith, omega arith)
    (All-weaker (λ n. (from + 1 ≤ n) × (n < from + 1 + count)) (λ n. (from ≤ n) × (n < from + suc count))
    (λ n h. (omega (arith, h.0), omega (arith, h.1))) (numbers_from (from + 1) count) (numbers-below (from + 1) count))

numbers-differ : (from count : ℕ) → AllPairs (λ x y. x ≢ y) (numbers_from from count)
unfolding numbers_from
numbers-differ from zero = λ i j d lt inside. absurd (omega (arith, inside))
numbers-differ from (suc count) =
    AllPairs-cons (λ x y. x ≢ y) from (numbers_from (from + 1) count)
    (All-weaker (λ n. (from + 1 ≤ n) × (n < from + 1 + count)) (λ n. from ≢ n) (λ n h same. absurd (omega (arith, h.0, same)))
    (numbers_from (from + 1) count) (numbers-below (from + 1) count))
    (numbers-differ (from + 1) count)

length-numbers : (from count : ℕ) → length (numbers_from from count) ≡ count
unfolding numbers_from
length-numbers from zero = refl
length-numbers from (suc count) = ap suc (length-numbers (from + 1) count)

-- what is left of a list passes, and has what the list has
filter-pass : {A : Type 0} (test : A → Bool) (x : A) (rest : List A) (b : Bool) → test x ≡ b → All (λ y. test y ≡ true) rest → All (λ y. test y ≡ true) (cond b (x ∷ rest) rest)
filter-pass test x rest true e h = All-cons (λ y. test y ≡ true) x rest e h
filter-pass test x rest false e h = h

pub filter-passes : {A : Type 0} (test : A → Bool) (xs : List A) → All (λ x. test x ≡ true) (filter test xs)
filter-passes test [] = All-nil (λ x. test x ≡ true)
filter-passes test (x ∷ xs) = filter-pass test x (filter test xs) (test x) refl (filter-passes test xs)

filter-keep : {A : Type 0} (P : A → Type 0) (x : A) (rest : List A) (b : Bool) → P x → All P rest → All P (cond b (x ∷ rest) rest)
filter-keep P x rest true p h = All-cons P x rest p h
filter-keep P x rest false p h = h

pub filter-keeps : {A : Type 0} (P : A → Type 0) (test : A → Bool) (xs : List A) → All P xs → All P (filter test xs)
filter-keeps P test [] h = All-nil P
filter-keeps P test (x ∷ xs) h = filter-keep P x (filter test xs) (test x) (All-head P x xs h) (filter-keeps P test xs (All-tail P x xs h))

-- ---- enough of them

-- a test leaves so many of some numbers
abbrev left : (ℕ → Bool) → ℕ → ℕ → ℕ
left test from count = length (filter (λ n. not (test n)) (numbers_from from count))

-- a number that isn't among them takes none away
none-taken : (m : ℕ) (test : ℕ → Bool) (from count : ℕ) → m < from → left test from count ≤ left (λ n. is_number n (Some m) || test n) from count
unfolding numbers_from
none-taken m test from zero lt = omega arith
none-taken m test from (suc count) lt = by (eqb m from) (other m from lt) (test from) (none-taken m test (from + 1) count (omega (arith, lt)))
  where
    other : (a b : ℕ) → a < b → eqb a b ≡ false
    other a b h = grind (arith, nat_tests)

    by : (e : Bool) → e ≡ false → (t : Bool) → left test (from + 1) count ≤ left (λ n. is_number n (Some m) || test n) (from + 1) count
        → length (cond (not t) (from ∷ filter (λ n. not (test n)) (numbers_from (from + 1) count)) (filter (λ n. not (test n)) (numbers_from (from + 1) count)))
        ≤ length (cond (not (e || t)) (from ∷ filter (λ n. not (is_number n (Some m) || test n)) (numbers_from (from + 1) count)) (filter (λ n. not (is_number n (Some m) || test n)) (numbers_from (from + 1) count)))
    by true off t h = absurd (false≢true (sym off))
    by false off true h = h
    by false off false h = omega (arith, h)

-- one that is takes one at most
one-taken : (m : ℕ) (test : ℕ → Bool) (from count : ℕ) → left test from count ≤ left (λ n. is_number n (Some m) || test n) from count + 1
unfolding numbers_from
one-taken m test from zero = omega arith
one-taken m test from (suc count) = by (eqb m from) refl (test from) (one-taken m test (from + 1) count)
  where
    same : eqb m from ≡ true → m < from + 1
    same e = grind (arith, nat_tests)

    by : (e : Bool) → eqb m from ≡ e → (t : Bool) → left test (from + 1) count ≤ left (λ n. is_number n (Some m) || test n) (from + 1) count + 1
        → length (cond (not t) (from ∷ filter (λ n. not (test n)) (numbers_from (from + 1) count)) (filter (λ n. not (test n)) (numbers_from (from + 1) count)))
        ≤ length (cond (not (e || t)) (from ∷ filter (λ n. not (is_number n (Some m) || test n)) (numbers_from (from + 1) count)) (filter (λ n. not (is_number n (Some m) || test n)) (numbers_from (from + 1) count))) + 1
    by true is true h = h
    by true is false h = omega (arith, none-taken m test (from + 1) count (same is))
    by false is true h = h
    by false is false h = omega (arith, h)

-- so many are free
many-free : (from count : ℕ) (given : List (Option ℕ)) → count ≤ length (filter (λ n. not (is_given given n)) (numbers_from from count)) + length given
many-free from count [] = omega (arith, all-left (numbers_from from count), length-numbers from count)
  where
    all-left : (xs : List ℕ) → length xs ≤ length (filter (λ n. not (is_given [] n)) xs)
    all-left [] = omega arith
    all-left (x ∷ xs) = omega (arith, all-left xs)
many-free from count (None ∷ given) = omega (arith, many-free from count given)
many-free from count (Some m ∷ given) = omega (arith, many-free from count given, one-taken m (is_given given) from count)

-- ---- what they fill

-- each of them, and each that is given
pub filled-all : (P : ℕ → Type 0) (free : List ℕ) (given : List (Option ℕ)) → P 0 → All P free → ((n : ℕ) → is_given given n ≡ true → P n) → All P (filled free given)
filled-all P free [] z f g = All-nil P
filled-all P free (Some n ∷ rest) z f g =
    All-cons P n (filled free rest) (g n (here n)) (filled-all P free rest z f (λ m e. g m (later m e)))
  where
    here : (n : ℕ) → is_given (Some n ∷ rest) n ≡ true
    here n = ap (λ b. b || is_given rest n) (same n)
      where
        same : (n : ℕ) → eqb n n ≡ true
        same n = grind (arith, nat_tests)

    later : (m : ℕ) → is_given rest m ≡ true → is_given (Some n ∷ rest) m ≡ true
    later m e = by (eqb n m)
      where
        by : (b : Bool) → (b || is_given rest m) ≡ true
        by true = refl
        by false = e
filled-all P [] (None ∷ rest) z f g = All-cons P 0 (filled [] rest) z (filled-all P [] rest z f g)
filled-all P (n ∷ free) (None ∷ rest) z f g =
    All-cons P n (filled free rest) (All-head P n free f) (filled-all P free rest z (All-tail P n free f) g)

-- how many are missing
abbrev missing : List (Option ℕ) → ℕ
missing [] = 0
missing (Some n ∷ rest) = missing rest
missing (None ∷ rest) = suc (missing rest)

missing-few : (given : List (Option ℕ)) → missing given ≤ length given
missing-few [] = omega arith
missing-few (Some n ∷ rest) = omega (arith, missing-few rest)
missing-few (None ∷ rest) = omega (arith, missing-few rest)

-- those that are given differ
abbrev pub GivenDiffer : List (Option ℕ) → Type 0
GivenDiffer [] = Unit {0}
GivenDiffer (Some n ∷ rest) = (is_given rest n ≡ false) × GivenDiffer rest
GivenDiffer (None ∷ rest) = GivenDiffer rest

-- a number that is neither free nor given isn't among them
avoided : (n : ℕ) (free : List ℕ) (given : List (Option ℕ)) → All (λ m. n ≢ m) free → is_given given n ≡ false → missing given ≤ length free
    → All (λ m. n ≢ m) (filled free given)
avoided n free [] f g few = All-nil (λ m. n ≢ m)
avoided n free (Some m ∷ rest) f g few =
    let p = or_parts (eqb m n) (is_given rest n) g in
    All-cons (λ k. n ≢ k) m (filled free rest) (λ same. false≢true (sym p.0 ∙ equal m n (sym same))) (avoided n free rest f p.1 few)
  where
    equal : (a b : ℕ) → a ≡ b → eqb a b ≡ true
    equal a b e = grind (arith, nat_tests)
avoided n [] (None ∷ rest) f g few = absurd (omega (arith, few))
avoided n (m ∷ free) (None ∷ rest) f g few =
    All-cons (λ k. n ≢ k) m (filled free rest) (All-head (λ k. n ≢ k) m free f) (avoided n free rest (All-tail (λ k. n ≢ k) m free f) g (omega (arith, few)))

pairs-tail : (x : ℕ) (xs : List ℕ) → AllPairs (λ a b. a ≢ b) (x ∷ xs) → AllPairs (λ a b. a ≢ b) xs
pairs-tail x xs h i j d lt inside = h (suc i) (suc j) d (omega (arith, lt)) (omega (arith, inside))

pairs-head : (x : ℕ) (xs : List ℕ) → AllPairs (λ a b. a ≢ b) (x ∷ xs) → All (λ b. x ≢ b) xs
pairs-head x xs h j d inside = h 0 (suc j) d (omega arith) (omega (arith, inside))

-- all of them differ
filled-differ : (free : List ℕ) (given : List (Option ℕ)) → AllPairs (λ a b. a ≢ b) free → All (λ n. is_given given n ≡ false) free → GivenDiffer given
    → missing given ≤ length free → AllPairs (λ a b. a ≢ b) (filled free given)
filled-differ free [] apart out given few = λ i j d lt inside. absurd (omega (arith, inside))
filled-differ free (Some n ∷ rest) apart out given few =
    AllPairs-cons (λ a b. a ≢ b) n (filled free rest)
    (avoided n free rest (All-weaker (λ m. is_given (Some n ∷ rest) m ≡ false) (λ m. n ≢ m) (λ m e same. false≢true (sym (or_parts (eqb n m) (is_given rest m) e).0 ∙ equal n m same)) free out) given.0 few)
    (filled-differ free rest apart (All-weaker (λ m. is_given (Some n ∷ rest) m ≡ false) (λ m. is_given rest m ≡ false) (λ m e. (or_parts (eqb n m) (is_given rest m) e).1) free out) given.1 few)
  where
    equal : (a b : ℕ) → a ≡ b → eqb a b ≡ true
    equal a b e = grind (arith, nat_tests)
filled-differ [] (None ∷ rest) apart out given few = absurd (omega (arith, few))
filled-differ (m ∷ free) (None ∷ rest) apart out given few =
    AllPairs-cons (λ a b. a ≢ b) m (filled free rest)
    (avoided m free rest (pairs-head m free apart) (All-head (λ n. is_given (None ∷ rest) n ≡ false) m free out) (omega (arith, few)))
    (filled-differ free rest (pairs-tail m free apart) (All-tail (λ n. is_given (None ∷ rest) n ≡ false) m free out) given (omega (arith, few)))

not-true : (b : Bool) → not b ≡ true → b ≡ false
not-true true e = absurd (false≢true e)
not-true false e = refl

-- the numbers of up to 128 things, some of them given
pub numbered-differ : (from : ℕ) (given : List (Option ℕ)) → length given ≤ 128 → GivenDiffer given → AllPairs (λ a b. a ≢ b) (filled (free_numbers from given) given)
numbered-differ from given few differ =
    let test : ℕ → Bool = λ n. not (is_given given n) in
    filled-differ (free_numbers from given) given
    (AllPairs-filter (λ a b. a ≢ b) test (numbers_from from 256) (numbers-differ from 256))
    (All-weaker (λ n. test n ≡ true) (λ n. is_given given n ≡ false) (λ n e. not-true (is_given given n) e) (free_numbers from given) (filter-passes test (numbers_from from 256)))
    differ (omega (arith, few, missing-few given, many-free from 256 given))

-- they are below a bound
pub numbered-below : (from high : ℕ) (given : List (Option ℕ)) → from + 256 ≤ high → ((n : ℕ) → is_given given n ≡ true → n < high) → All (λ n. n < high) (filled (free_numbers from given) given)
numbered-below from high given room small =
    filled-all (λ n. n < high) (free_numbers from given) given (omega (arith, room))
    (filter-keeps (λ n. n < high) (λ n. not (is_given given n)) (numbers_from from 256)
    (All-weaker (λ n. (from ≤ n) × (n < from + 256)) (λ n. n < high) (λ n h. omega (arith, h.1, room)) (numbers_from from 256) (numbers-below from 256)))
    small
