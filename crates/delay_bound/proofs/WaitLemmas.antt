-- A frame's wait, by the peak of what comes to its port.
use Rattle.std.proofs.Common.{◌≡◌, ℕ, ◌+◌, ◌-◌, ◌*◌, ◌/◌, ◌<◌, ◌≤◌, List, inl, inr, ap, sym, subst, arith}
use Rattle.std.proofs.Math.Nat.{mul-le-mul_left, mul-le-mul_right, mod-lt}
use Rattle.std.proofs.lemmas.Nat.{le-div, div-add-mod'}
use Rattle.std.proofs.lemmas.Bool.{cases_lt}
use Rattle.delay_bound.specs.declared.bound.Group.{Group}
use Rattle.delay_bound.specs.Bounds.{second, IsPeak}
use Rattle.delay_bound.specs.Waits.{wait_of}
use Rattle.delay_bound.specs.Windows.{IsOwed}

-- a whole number of bits, from a height
whole_bits : (n height x : ℕ) → n * second ≤ height + x * second → n ≤ height / second + x
whole_bits n height x h =
    let split = div-add-mod' height second in
    let some : 0 < second = omega arith in
    let small = mod-lt height some in
    omega (arith, split, small, h)

-- bits that come over x bit times, at the rate
at_rate : (rate bit slope height bits x : ℕ) → rate * bit ≡ second → bits * second ≤ height + slope * (x * bit)
    → rate * bits ≤ rate * height / second + slope * x
at_rate rate bit slope height bits x rates h =
    let more : rate * (bits * second) ≤ rate * (height + slope * (x * bit)) = mul-le-mul_left rate h in
    let same : slope * x * (rate * bit) ≡ slope * x * second = ap (λ k. slope * x * k) rates in
    whole_bits (rate * bits) (rate * height) (slope * x) (omega (arith, more, same))

rest_of : (slope idle top own y : ℕ) → 0 < slope → slope * y + own ≤ top + idle * slope → y ≤ idle + (top - own) / slope
rest_of slope idle top own y some h =
    elim (cases_lt idle y) [
      | inl lt ↦ (
          let left : slope * (idle + (y - idle)) ≡ slope * y = ap (λ k. slope * k) (omega (arith, lt)) in
          let fits : y - idle ≤ (top - own) / slope = le-div (y - idle) (top - own) slope some (omega (arith, left, h)) in
          omega (arith, fits))
      | inr ge ↦ omega (arith, ge)
    ]

numbers : (rate bit slope idle height least e ahead x y : ℕ) → rate * bit ≡ second → 0 < slope → slope ≤ rate
    → (ahead + (least + e)) * second ≤ height + slope * (x * bit) → slope * (y + x) ≤ rate * ahead + idle * slope
    → y + (least + e) ≤ wait_of rate slope idle height least + least
numbers rate bit slope idle height least e ahead x y rates some fast brought owed =
    let came = at_rate rate bit slope height (ahead + (least + e)) x rates brought in
    let longer : slope * e ≤ rate * e = mul-le-mul_right e fast in
    let rest = rest_of slope idle (rate * height / second) (rate * least) (y + e) some (omega (arith, came, longer, owed)) in
    omega (arith, rest)

pub wait_within : (groups : List Group) (rate bit slope idle height least own ahead s t u : ℕ)
    → IsPeak groups slope height → rate * bit ≡ second → 0 < slope → slope ≤ rate → least ≤ own
    → IsOwed groups rate bit slope idle own ahead s t u
    → (u - t) + own ≤ wait_of rate slope idle height least + least
wait_within groups rate bit slope idle height least own ahead s t u peak rates some fast small owed =
    let stays = peak.stays ((t - s) * bit) in
    let whole : least + (own - least) ≡ own = omega (arith, small) in
    let since : slope * ((u - t) + (t - s)) ≡ slope * (u - s) = ap (λ k. slope * k) (omega (arith, owed.since, owed.until)) in
    let all = numbers rate bit slope idle height least (own - least) ahead (t - s) (u - t) rates some fast
    (let P : ℕ → Type 0 = λ k. (ahead + k) * second ≤ height + slope * ((t - s) * bit) in subst P (sym whole) (omega (arith, owed.brought, stays)))
    (omega (arith, since, owed.owed)) in
    omega (arith, all, whole)
