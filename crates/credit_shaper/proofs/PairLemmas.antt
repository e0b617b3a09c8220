-- Lists in which each element stands in a relation to each later one.
use Rattle.std.proofs.Common.{ℕ, zero, suc, List, [], ◌∷◌, ◌++◌, length, get_or, map, inl, inr, sym, subst, arith}
use Rattle.std.specs.Prelude.{All, AllPairs}
use Rattle.std.specs.List.{AllAdjacentBelow}
use Rattle.std.proofs.lemmas.{Bool.cases_eq, List.Elements.All-head, List.Elements.All-tail, List.Elements.All-append, List.Elements.All-map, List.Elements.All-weaker, List.Kept.AllPairs-cons}

pub pairs-none : {X : Type 0} (R : X → X → Type 0) → AllPairs R []
pairs-none R i j d lt below = absurd (omega (arith, below))

-- the first with the later ones, and the later ones
pub pairs-head : {X : Type 0} (R : X → X → Type 0) (x : X) (xs : List X) → AllPairs R (x ∷ xs) → All (R x) xs
pairs-head R x xs h k d below = h zero (suc k) d (omega arith) (omega (arith, below))

pub pairs-tail : {X : Type 0} (R : X → X → Type 0) (x : X) (xs : List X) → AllPairs R (x ∷ xs) → AllPairs R xs
pairs-tail R x xs h i j d lt below = h (suc i) (suc j) d (omega (arith, lt)) (omega (arith, below))

-- two lists, each of whose elements stands so to each of the other
pub pairs-append : {X : Type 0} (R : X → X → Type 0) (xs ys : List X) → AllPairs R xs → AllPairs R ys → All (λ x. All (R x) ys) xs → AllPairs R (xs ++ ys)
pairs-append R [] ys one two cross = two
pairs-append {X} R (x ∷ xs) ys one two cross =
    let C : X → Type 0 = λ z. All (R z) ys in
    AllPairs-cons R x (xs ++ ys) (All-append (R x) xs ys (pairs-head R x xs one) (All-head C x xs cross))
    (pairs-append R xs ys (pairs-tail R x xs one) two (All-tail C x xs cross))

pub AllPairs-map : {X Y : Type 0} (R : X → X → Type 0) (S : Y → Y → Type 0) (f : X → Y) → ((x y : X) → R x y → S (f x) (f y)) → (xs : List X)
    → AllPairs R xs → AllPairs S (map f xs)
AllPairs-map R S f each [] h = pairs-none S
AllPairs-map {X} R S f each (x ∷ xs) h =
    let Q : X → Type 0 = λ y. S (f x) (f y) in
    AllPairs-cons S (f x) (map f xs) (All-map (S (f x)) f xs (All-weaker (R x) Q (λ y r. each x y r) xs (pairs-head R x xs h)))
    (AllPairs-map R S f each xs (pairs-tail R x xs h))

pub AllPairs-weaker : {X : Type 0} (R S : X → X → Type 0) (P : X → Type 0) → ((x y : X) → P x → P y → R x y → S x y) → (xs : List X) → All P xs
    → AllPairs R xs → AllPairs S xs
AllPairs-weaker R S P each xs all h i j d lt below = grind arith

-- where each is in order with the next, each is with each later one
pub pairs-from-adjacent : {X : Type 0} (R : X → X → Type 0) → ((x y z : X) → R x y → R y z → R x z) → (xs : List X)
    → AllAdjacentBelow R xs (length xs) → AllPairs R xs
pairs-from-adjacent R along xs next i zero d lt below = absurd (omega (arith, lt))
pairs-from-adjacent R along xs next i (suc j) d lt below =
    let step : R (get_or xs j d) (get_or xs (suc j) d) = subst (λ (k : ℕ). R (get_or xs j d) (get_or xs k d)) (omega arith) (next j d (omega (arith, below))) in
    elim (cases_eq i j) [
      | inl same ↦ subst (λ (k : ℕ). R (get_or xs k d) (get_or xs (suc j) d)) (sym same) step
      | inr ne ↦ along (get_or xs i d) (get_or xs j d) (get_or xs (suc j) d) (pairs-from-adjacent R along xs next i j d (omega arith) (omega (arith, below))) step
    ]
