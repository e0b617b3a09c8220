-- Sums that are below 2^128.
use Rattle.std.proofs.Common.{◌≡◌, ℕ, ◌+◌, ◌^◌, ◌<◌, ◌≤◌, List, length, drop, Some, None, sym, subst, arith}
use Rattle.std.specs.Prelude.{sum_by, nat_lt}
use Rattle.std.proofs.lemmas.Bool.{cond-true, lt-ltb}
use Rattle.std.proofs.lemmas.List.{at_drop_all}
use Rattle.delay_bound.specs.Waits.{in_u128}

pub sum-end : {X : Type 0} (f : X → ℕ) (sum : ℕ) (xs : List X) (i : ℕ) → length xs ≤ i → sum + sum_by f (drop i xs) ≡ sum_by f xs → sum < 2 ^ 128
    → Some sum ≡ in_u128 (sum_by f xs)
sum-end f sum xs i le is small =
    let none = at_drop_all (λ t. sum_by f t) xs i le in
    let same : sum ≡ sum_by f xs = omega (arith, none, is) in
    subst (λ (n : ℕ). Some sum ≡ in_u128 n) same (sym (cond-true (nat_lt sum (2 ^ 128)) (Some sum) None (lt-ltb sum (2 ^ 128) small)))
