-- Sums over lists, over what passes tests, and over the copies of frames.
use Rattle.std.proofs.Common.{◌≡◌, ◌≢◌, ℕ, zero, suc, ◌+◌, ◌≤◌, inl, inr, Bool, true, cond, List, [], ◌∷◌, get_or, map, Option, Some, None, refl, sym, ◌∙◌, ap, subst, arith}
use Rattle.std.specs.Prelude.{All, AllPairs, Contains, sum_by, filter, find, ◌==◌}
use Rattle.std.proofs.lemmas.{Bool.cond_both, Bool.cond-true, Bool.cond-false, Bool.cases_Bool, Bool.cases_eq, Bool.eq-eqb, Bool.ne_eqb, List.get_or-map, List.length-map, List.Elements.All-head, List.Elements.All-tail, List.Elements.All-weaker, List.Sums.sum_by-cons, List.Sums.get_or-le-sum_by}
use Rattle.credit_shaper.proofs.PairLemmas.{pairs-head, pairs-tail}
use Rattle.frame_flow.specs.declared.{frame.Frame.Frame, frame.FrameCopy.FrameCopy}
use Rattle.delay_bound.proofs.WindowLemmas.{sum_both, sum_same}
use Rattle.delay_flow.specs.{copy_in}

-- ---- membership

pub contains-filter : {X : Type 0} (p : X → Bool) (xs : List X) (x : X) → Contains xs x → p x ≡ true → Contains (filter p xs) x
contains-filter p [] x (k, below, same) yes_ = absurd (omega (arith, below))
contains-filter {X} p (z ∷ zs) x (zero, below, same) yes_ =
    let is : p z ≡ true = ap p same ∙ yes_ in
    subst (λ (t : List X). Contains t x) (sym (cond-true (p z) (z ∷ filter p zs) (filter p zs) is)) (zero, omega arith, same)
contains-filter p (z ∷ zs) x (suc k, below, same) yes_ =
    let rest = contains-filter p zs x (k, omega (arith, below), same) yes_ in
    cond_both (p z) (z ∷ filter p zs) (filter p zs) (λ t. Contains t x) (λ e. (suc rest.0, omega (arith, rest.1), rest.2)) (λ e. rest)

pub contains-map : {X Y : Type 0} (f : X → Y) (xs : List X) (x : X) → Contains xs x → Contains (map f xs) (f x)
contains-map f xs x (k, below, same) =
    (k, omega (arith, below, length-map xs f), get_or-map f xs k x (f x) below ∙ ap f same)

pub contains-unmap : {X Y : Type 0} (f : X → Y) (xs : List X) (y : Y) → Contains (map f xs) y → (x : X) × Contains xs x × (f x ≡ y)
contains-unmap f [] y (k, below, same) = absurd (omega (arith, below))
contains-unmap f (x ∷ xs) y (zero, below, same) = (x, (zero, omega arith, refl), same)
contains-unmap f (x ∷ xs) y (suc k, below, same) =
    let rest = contains-unmap f xs y (k, omega (arith, below), same) in
    (rest.0, (suc rest.1.0, omega (arith, rest.1.1), rest.1.2), rest.2)

-- ---- sums

pub sum-filter_cons : {F : Type 0} (g : F → ℕ) (p : F → Bool) (x : F) (xs : List F) → sum_by g (filter p (x ∷ xs)) ≡ cond (p x) (g x) 0 + sum_by g (filter p xs)
sum-filter_cons {F} g p x xs =
    elim (cases_Bool (p x)) [
      | inl is ↦ ap (λ (t : List F). sum_by g t) (cond-true (p x) (x ∷ filter p xs) (filter p xs) is)
          ∙ omega (arith, sum_by-cons g x (filter p xs), cond-true (p x) (g x) 0 is)
      | inr nay ↦ ap (λ (t : List F). sum_by g t) (cond-false (p x) (x ∷ filter p xs) (filter p xs) nay)
          ∙ omega (arith, cond-false (p x) (g x) 0 nay)
    ]

-- what passes two tests passes one
pub sum-filter_more : {F : Type 0} (g : F → ℕ) (p q : F → Bool) (xs : List F) → sum_by g (filter p (filter q xs)) ≤ sum_by g (filter p xs)
sum-filter_more g p q [] = omega arith
sum-filter_more {F} g p q (x ∷ xs) =
    let rest = sum-filter_more g p q xs in
    cond_both (q x) (x ∷ filter q xs) (filter q xs) (λ t. sum_by g (filter p t) ≤ sum_by g (filter p (x ∷ xs)))
    (λ e. omega (arith, sum-filter_cons g p x (filter q xs), sum-filter_cons g p x xs, rest))
    (λ e. omega (arith, sum-filter_cons g p x xs, rest))

-- a sum is no greater than the one of what passes a test, where each part is within that
pub sum-into : {F : Type 0} (a h : F → ℕ) (p : F → Bool) (xs : List F) → All (λ x. a x ≤ cond (p x) (h x) 0) xs → sum_by a xs ≤ sum_by h (filter p xs)
sum-into a h p [] all = omega arith
sum-into {F} a h p (x ∷ xs) all =
    let P : F → Type 0 = λ t. a t ≤ cond (p t) (h t) 0 in
    omega (arith, sum_by-cons a x xs, sum-filter_cons h p x xs, All-head P x xs all, sum-into a h p xs (All-tail P x xs all))

sum-has : {F : Type 0} (t : F → ℕ) (xs : List F) (x : F) → Contains xs x → t x ≤ sum_by t xs
sum-has t xs x (k, below, same) = omega (arith, get_or-le-sum_by t xs k x below, ap t same)

-- ---- things by their numbers

abbrev pub value_in : {X : Type 0} → (X → ℕ) → Option X → ℕ
value_in g None = 0
value_in g (Some x) = g x

abbrev pub Differ : FrameCopy → FrameCopy → Type 0
Differ c d = c.frame.number ≢ d.frame.number

none-found : {X : Type 0} (key : X → ℕ) (xs : List X) (n : ℕ) → All (λ x. key x ≢ n) xs → find (λ x. key x == n) xs ≡ None
none-found key [] n all = refl
none-found {X} key (x ∷ xs) n all =
    let P : X → Type 0 = λ y. key y ≢ n in
    cond-false (key x == n) (Some x) (find (λ y. key y == n) xs) (ne_eqb (key x) n (All-head P x xs all)) ∙ none-found key xs n (All-tail P x xs all)

value-more : {X : Type 0} (key g : X → ℕ) (x : X) (xs : List X) (n : ℕ) → All (λ y. key x ≢ key y) xs
    → value_in g (find (λ y. key y == n) xs) + cond (key x == n) (g x) 0 ≡ value_in g (find (λ y. key y == n) (x ∷ xs))
value-more {X} key g x xs n apart =
    let V : Option X → ℕ = λ o. value_in g o in
    let rest = find (λ y. key y == n) xs in
    elim (cases_eq (key x) n) [
      | inl e ↦ (
          let test = eq-eqb (key x) n e in
          let none = none-found key xs n (All-weaker (λ y. key x ≢ key y) (λ y. key y ≢ n) (λ y ne f. ne (e ∙ sym f)) xs apart) in
          let zero_ : V rest ≡ 0 = ap V none in
          let here : V (find (λ y. key y == n) (x ∷ xs)) ≡ g x = ap V (cond-true (key x == n) (Some x) rest test) in
          omega (arith, zero_, here, cond-true (key x == n) (g x) 0 test))
      | inr ne ↦ (
          let test = ne_eqb (key x) n ne in
          let there : V (find (λ y. key y == n) (x ∷ xs)) ≡ V rest = ap V (cond-false (key x == n) (Some x) rest test) in
          omega (arith, there, cond-false (key x == n) (g x) 0 test))
    ]

-- a sum over things of different numbers is one over those that have the numbers
pub sum-keys : {X Y : Type 0} (kx : X → ℕ) (ky : Y → ℕ) (g : X → ℕ) (xs : List X) (ys : List Y) → AllPairs (λ a b. kx a ≢ kx b) xs
    → All (λ x. (y : Y) × Contains ys y × (ky y ≡ kx x)) xs → sum_by g xs ≤ sum_by (λ y. value_in g (find (λ x. kx x == ky y) xs)) ys
sum-keys kx ky g [] ys apart known = omega arith
sum-keys {X} {Y} kx ky g (x ∷ xs) ys apart known =
    let R : X → X → Type 0 = λ a b. kx a ≢ kx b in
    let K : X → Type 0 = λ z. (y : Y) × Contains ys y × (ky y ≡ kx z) in
    let rest = sum-keys kx ky g xs ys (pairs-tail R x xs apart) (All-tail K x xs known) in
    let old : Y → ℕ = λ y. value_in g (find (λ z. kx z == ky y) xs) in
    let one : Y → ℕ = λ y. cond (kx x == ky y) (g x) 0 in
    let both = sum_same (λ y. old y + one y) (λ y. value_in g (find (λ z. kx z == ky y) (x ∷ xs))) ys (λ y. value-more kx g x xs (ky y) (pairs-head R x xs apart)) in
    let there = All-head K x xs known in
    let own : g x ≡ one there.0 = sym (cond-true (kx x == ky there.0) (g x) 0 (eq-eqb (kx x) (ky there.0) (sym there.2))) in
    omega (arith, sum_by-cons g x xs, rest, both, sum_both old one ys, own, sum-has one ys there.0 there.1)

-- a sum over copies of different frames is one over the frames
pub sum-frames : (g : FrameCopy → ℕ) (cs : List FrameCopy) (fs : List Frame) → AllPairs Differ cs → All (λ c. Contains fs c.frame) cs
    → sum_by g cs ≤ sum_by (λ f. value_in g (copy_in cs f.number)) fs
sum-frames g cs fs apart known =
    sum-keys (λ c. c.frame.number) (λ f. f.number) g cs fs apart (λ k d below. ((get_or cs k d).frame, known k d below, refl))

pub only-one : {X : Type 0} (x y : X) → Contains (x ∷ []) y → x ≡ y
only-one x y (zero, below, same) = same
only-one x y (suc k, below, same) = absurd (omega (arith, below))

-- what alone passes a test is found
pub find-alone : {X : Type 0} (p : X → Bool) (xs : List X) (x : X) → filter p xs ≡ x ∷ [] → find p xs ≡ Some x
find-alone p [] x e = absurd (let nay : [] ≡ x ∷ [] = e in cc)
find-alone {X} p (y ∷ ys) x e =
    elim (cases_Bool (p y)) [
      | inl is ↦ (
          let same : y ∷ filter p ys ≡ x ∷ [] = sym (cond-true (p y) (y ∷ filter p ys) (filter p ys) is) ∙ e in
          let one : y ≡ x = cc in
          cond-true (p y) (Some y) (find p ys) is ∙ ap (λ (t : X). Some t) one)
      | inr nay ↦ cond-false (p y) (Some y) (find p ys) nay ∙ find-alone p ys x (sym (cond-false (p y) (y ∷ filter p ys) (filter p ys) nay) ∙ e)
    ]
