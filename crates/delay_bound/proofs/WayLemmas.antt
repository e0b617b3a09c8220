-- The sum over a way.
use Rattle.std.proofs.Common.{◌≡◌, ℕ, ◌+◌, ◌^◌, ◌<◌, ◌≤◌, List, length, drop, Some, None, sym, subst, arith}
use Rattle.std.specs.Prelude.{nat_lt}
use Rattle.std.proofs.lemmas.Bool.{cond-true, lt-ltb}
use Rattle.std.proofs.lemmas.List.{at_drop_all}
use Rattle.delay_bound.specs.declared.way.Hop.{Hop}
use Rattle.delay_bound.specs.Waits.{within_of, in_u128}

pub within_end : (least sum : ℕ) (hops : List Hop) (i : ℕ) → length hops ≤ i → sum + within_of least (drop i hops) ≡ within_of least hops → sum < 2 ^ 128
    → Some sum ≡ in_u128 (within_of least hops)
within_end least sum hops i le is small =
    let none = at_drop_all (λ t. within_of least t) hops i le in
    let same : sum ≡ within_of least hops = omega (arith, none, is) in
    subst (λ (n : ℕ). Some sum ≡ in_u128 n) same (sym (cond-true (nat_lt sum (2 ^ 128)) (Some sum) None (lt-ltb sum (2 ^ 128) small)))
