-- What is found in lists, and streams as they compare.
use Rattle.std.proofs.Common.{◌≡◌, ℕ, zero, suc, inl, inr, Bool, true, List, [], ◌∷◌, ◌++◌, map, Option, Some, None, refl, sym, ◌∙◌, ap, arith}
use Rattle.std.specs.Prelude.{Contains, find, ◌==◌}
use Rattle.std.proofs.lemmas.{Bool.cond-true, Bool.cond-false, Bool.cases_Bool, Bool.eq-eqb, Bool.eqb-true, Bool.and_parts, Bool.and_from, List.Elements.All-contains_itself, List.Folds.find-append}
use Rattle.std.specs.Option.{option_or}
use Rattle.delay_bound.specs.declared.stream.ClassStream.{ClassStream}
use Rattle.frame_flow.proofs.CopyLemmas.{All-find}
use Rattle.class_delays.specs.{is_same}

-- what is found passes and is there
pub found : {X : Type 0} (p : X → Bool) (xs : List X) (x : X) → find p xs ≡ Some x → (p x ≡ true) × Contains xs x
found p xs x e = let h = All-find (Contains xs) p xs x (All-contains_itself xs) e in (h.1, h.0)

-- where one passes something is found
pub some-found : {X : Type 0} (p : X → Bool) (xs : List X) (x : X) → Contains xs x → p x ≡ true → (y : X) × (find p xs ≡ Some y)
some-found p [] x (k, below, same) is = absurd (omega (arith, below))
some-found p (y ∷ ys) x (zero, below, same) is = (y, cond-true (p y) (Some y) (find p ys) (ap p same ∙ is))
some-found p (y ∷ ys) x (suc k, below, same) is =
    let rest = some-found p ys x (k, omega (arith, below), same) is in
    elim (cases_Bool (p y)) [
      | inl here ↦ (y, cond-true (p y) (Some y) (find p ys) here)
      | inr nay ↦ (rest.0, cond-false (p y) (Some y) (find p ys) nay ∙ rest.1)
    ]

-- and stays so in a longer list
pub still-found : {X : Type 0} (p : X → Bool) (xs ys : List X) (x : X) → find p xs ≡ Some x → find p (xs ++ ys) ≡ Some x
still-found {X} p xs ys x e = find-append p xs ys ∙ ap (λ (o : Option X). option_or o (find p ys)) e

-- what is found in a list of what a function gives
pub found-map : {X Y : Type 0} (p : Y → Bool) (f : X → Y) (xs : List X) (y : Y) → find p (map f xs) ≡ Some y → (x : X) × (find (λ t. p (f t)) xs ≡ Some x) × (y ≡ f x)
found-map p f [] y e = absurd (let nay : None ≡ Some y = e in cc)
found-map {X} {Y} p f (x ∷ xs) y e =
    elim (cases_Bool (p (f x))) [
      | inl is ↦ (
          let same : Some (f x) ≡ Some y = sym (cond-true (p (f x)) (Some (f x)) (find p (map f xs)) is) ∙ e in
          let one : y ≡ f x = cc in
          (x, cond-true (p (f x)) (Some x) (find (λ t. p (f t)) xs) is, one))
      | inr nay ↦ (
          let rest = found-map p f xs y (sym (cond-false (p (f x)) (Some (f x)) (find p (map f xs)) nay) ∙ e) in
          (rest.0, cond-false (p (f x)) (Some x) (find (λ t. p (f t)) xs) nay ∙ rest.1, rest.2))
    ]

-- streams that compare as one are one
pub same-stream : (x y : ClassStream) → is_same x y ≡ true → x ≡ y
same-stream x y is =
    let to : ℕ → ℕ → ℕ → ℕ → ℕ → ℕ → ClassStream = λ i t m b s l. record {
      id = record { 0 = i };
      talker = record { 0 = t };
      limits = record { most = m; burst = b; slope = s };
      least = l;
    } in
    let a = and_parts (x.id.0 == y.id.0) _ is in
    let b = and_parts (x.talker.0 == y.talker.0) _ a.1 in
    let c = and_parts (x.limits.most == y.limits.most) _ b.1 in
    let d = and_parts (x.limits.burst == y.limits.burst) _ c.1 in
    let e = and_parts (x.limits.slope == y.limits.slope) (x.least == y.least) d.1 in
    ap (λ (i : ℕ). to i x.talker.0 x.limits.most x.limits.burst x.limits.slope x.least) (eqb-true x.id.0 y.id.0 a.0)
    ∙ ap (λ (t : ℕ). to y.id.0 t x.limits.most x.limits.burst x.limits.slope x.least) (eqb-true x.talker.0 y.talker.0 b.0)
    ∙ ap (λ (m : ℕ). to y.id.0 y.talker.0 m x.limits.burst x.limits.slope x.least) (eqb-true x.limits.most y.limits.most c.0)
    ∙ ap (λ (v : ℕ). to y.id.0 y.talker.0 y.limits.most v x.limits.slope x.least) (eqb-true x.limits.burst y.limits.burst d.0)
    ∙ ap (λ (s : ℕ). to y.id.0 y.talker.0 y.limits.most y.limits.burst s x.least) (eqb-true x.limits.slope y.limits.slope e.0)
    ∙ ap (λ (l : ℕ). to y.id.0 y.talker.0 y.limits.most y.limits.burst y.limits.slope l) (eqb-true x.least y.least e.1)

pub same-itself : (x : ClassStream) → is_same x x ≡ true
same-itself x =
    let is : (n : ℕ) → (n == n) ≡ true = λ n. eq-eqb n n refl in
    and_from (x.id.0 == x.id.0) _ (is x.id.0) (and_from (x.talker.0 == x.talker.0) _ (is x.talker.0) (and_from (x.limits.most == x.limits.most) _ (is x.limits.most)
    (and_from (x.limits.burst == x.limits.burst) _ (is x.limits.burst) (and_from (x.limits.slope == x.limits.slope) (x.least == x.least) (is x.limits.slope) (is x.least)))))
