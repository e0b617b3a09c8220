-- Lists that a loop makes: one element more at their end.
use Rattle.std.proofs.Common.{◌≡◌, ℕ, suc, ◌+◌, List, [], ◌∷◌, ◌++◌, map, sym, ap, ◌∙◌, append_assoc, arith}
use Rattle.std.specs.Prelude.{flat_map}
use Rattle.std.specs.List.{range_with_len}
use Rattle.std.proofs.lemmas.List.FromFn.{map-range_with_len_more}
use Rattle.srp_base.proofs.Lists.{flat-range-more as flat-more}

-- ---- of the numbers from 1 on

-- what is made of each, with that of one number more
pub push-more : {X : Type 0} (f : ℕ → X) (n : ℕ) (front before after : List X) → before ≡ front ++ map f (range_with_len 1 n)
    → after ≡ before ++ f (n + 1) ∷ [] → after ≡ front ++ map f (range_with_len 1 (n + 1))
push-more {X} f n front before after all pushed =
    let place : 1 + n ≡ n + 1 = omega arith in
    pushed ∙ ap (λ (xs : List X). xs ++ f (n + 1) ∷ []) all
    ∙ append_assoc front (map f (range_with_len 1 n)) (f (n + 1) ∷ [])
    ∙ ap (λ (xs : List X). front ++ xs) (sym (map-range_with_len_more f 1 n (n + 1) place))

-- the lists that are made of each, one after the other, with that of one number more
pub extend-more : {X : Type 0} (f : ℕ → List X) (n : ℕ) (front before after : List X) → before ≡ front ++ flat_map f (range_with_len 1 n)
    → after ≡ before ++ f (n + 1) → after ≡ front ++ flat_map f (range_with_len 1 (n + 1))
extend-more {X} f n front before after all pushed =
    let place : 1 + n ≡ n + 1 = omega arith in
    let next : suc n ≡ n + 1 = omega arith in
    pushed ∙ ap (λ (xs : List X). xs ++ f (n + 1)) all
    ∙ append_assoc front (flat_map f (range_with_len 1 n)) (f (n + 1))
    ∙ ap (λ (xs : List X). front ++ xs) (sym (flat-more f n 1 (n + 1) place))
    ∙ ap (λ (k : ℕ). front ++ flat_map f (range_with_len 1 k)) next
