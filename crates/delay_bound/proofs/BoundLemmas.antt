-- Two bounds over a span, and the least of some.
use Rattle.std.proofs.Common.{◌≡◌, ℕ, ◌+◌, ◌-◌, ◌*◌, ◌<◌, ◌≤◌, List, [], ◌∷◌, length, drop, get_or, sym, ◌∙◌, ap, arith}
use Rattle.std.specs.Prelude.{◌↔◌, min}
use Rattle.std.proofs.Math.Nat.{mul-le-mul_right}
use Rattle.std.proofs.lemmas.List.{at_drop_more, at_drop_all}
use Rattle.std.proofs.lemmas.List.Sums.{sum_by-drop_more}
use Rattle.delay_bound.specs.declared.bound.Bound.{Bound}
use Rattle.delay_bound.specs.Bounds.{given_in, least_in, bases_with}

pub below_flat : (b s fb fs span d : ℕ) → d ≡ s - fs → fs ≤ s → b ≤ fb → (d * span ≤ fb - b) ↔ (b + s * span ≤ fb + fs * span)
below_flat b s fb fs span d is steep low =
    let whole : fs + d ≡ s = omega (arith, is, steep) in
    let same : (fs + d) * span ≡ s * span = ap (λ k. k * span) whole in
    ((λ h. omega (arith, h, same, low)), (λ h. omega (arith, h, same, low)))

pub above_flat : (b s fb fs span : ℕ) → fs ≤ s → fb < b → b + s * span ≤ fb + fs * span → ⊥
above_flat b s fb fs span steep high h =
    let more : fs * span ≤ s * span = mul-le-mul_right span steep in
    omega (arith, more, high, h)

pub lowest_on : (span : ℕ) (first next b : Bound) (bs : List Bound) → given_in span next ≡ min (given_in span b) (given_in span first)
    → least_in span next bs ≡ least_in span first (b ∷ bs)
lowest_on span first next b [] is = is
lowest_on span first next b (c ∷ cs) is = omega (arith, lowest_on span first next b cs is)

pub lowest_step : (span : ℕ) (first lowest next : Bound) (more : List Bound) (i : ℕ) (d : Bound) → i < length more
    → given_in span next ≡ min (given_in span (get_or more i d)) (given_in span lowest) → least_in span lowest (drop i more) ≡ least_in span first more
    → least_in span next (drop (i + 1) more) ≡ least_in span first more
lowest_step span first lowest next more i d lt is so_far =
    lowest_on span lowest next (get_or more i d) (drop (i + 1) more) is ∙ sym (at_drop_more (λ t. least_in span lowest t) more i d lt) ∙ so_far

pub lowest_end : (span : ℕ) (first lowest : Bound) (more : List Bound) (i : ℕ) → length more ≤ i → least_in span lowest (drop i more) ≡ least_in span first more
    → given_in span lowest ≡ least_in span first more
lowest_end span first lowest more i le so_far = sym (at_drop_all (λ t. least_in span lowest t) more i le) ∙ so_far

pub bases_step : (first lowest next : Bound) (more : List Bound) (i : ℕ) (d : Bound) → i < length more → next.base ≤ lowest.base + (get_or more i d).base
    → bases_with lowest (drop i more) ≤ bases_with first more → bases_with next (drop (i + 1) more) ≤ bases_with first more
bases_step first lowest next more i d lt small so_far = omega (arith, sum_by-drop_more (λ b. b.base) more i d lt, small, so_far)

pub bases_end : (first lowest : Bound) (more : List Bound) (i : ℕ) → bases_with lowest (drop i more) ≤ bases_with first more → lowest.base ≤ bases_with first more
bases_end first lowest more i so_far = omega (arith, so_far)
