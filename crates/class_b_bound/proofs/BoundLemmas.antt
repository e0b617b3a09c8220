-- From what holds in each bit time to the two bounds.
use Rattle.std.proofs.Common.{◌≡◌, ℕ, zero, suc, ◌+◌, ◌-◌, ◌*◌, ◌/◌, ◌<◌, ◌≤◌, Bool, true, false, cond, ap, inl, inr, arith}
use Rattle.std.specs.Prelude.{ℤ, pos, ◌+ℤ◌, ◌-ℤ◌, ◌≤ℤ◌}
use Rattle.std.specs.Int.{div_ceil}
use Rattle.std.proofs.Math.Nat.{mul-le-mul_left, mod-lt}
use Rattle.std.proofs.lemmas.{Nat.div-add-mod', Bool.cases_lt, Grind.div_ceil_times, Int.ints}
use Rattle.srp_base.specs.declared.bandwidth.Rate.{Rate}
use Rattle.srp_base.specs.declared.bandwidth.Rate.TheVariants.{M100, G1, G10}
use Rattle.srp_base.specs.Bandwidth.{bits_of}
use Rattle.credit_shaper.specs.declared.{shaper.Traffic.TheVariants.B, port.PortInput.PortInput}
use Rattle.credit_shaper.specs.{Bounds.credit_b_at, Steps.was_on_line, Steps.bits_left}
use Rattle.class_b_bound.specs.{BitLaws, AreCaps, HasCaps, wait_of, bound_of, tight_bound_of, IsCreditBWithin, is_kept_waiting, HasWait, IsWorstWait, waited}
use Rattle.class_b_bound.proofs.BeginLemmas.{BeginsAt, begins, waited-yes}

-- ---- quotients

-- what goes into a product is at most the quotient, rounded up or down
upto_ceil : (n d m : ℕ) → 0 < d → d * n ≤ m → n ≤ div_ceil m d
upto_ceil n d m some h = grind (arith, div_ceil_times, cases_lt, mul-le-mul_left)

upto_quotient : (n d m : ℕ) → 0 < d → d * n ≤ m → n ≤ m / d
upto_quotient n d m some h = grind (arith, div-add-mod', mod-lt, cases_lt, mul-le-mul_left)

product_of_quotient : (d m : ℕ) → d * (m / d) ≤ m
product_of_quotient d m = let split = div-add-mod' m d in omega (arith, split)

-- the caps leave some of the rate
gap_some : (rate : Rate) (cap_a cap_ab : ℕ) → AreCaps rate cap_a cap_ab → 0 < bits_of rate - cap_a
gap_some rate cap_a cap_ab caps = grind arith

-- ---- the tight bound is no greater

pub wait_no_greater : (rate : Rate) (cap_a cap_ab : ℕ) → AreCaps rate cap_a cap_ab → (tight_bound_of rate cap_a cap_ab).wait ≤ (bound_of rate cap_a cap_ab).wait
wait_no_greater rate cap_a cap_ab caps = grind (arith, product_of_quotient, upto_ceil, gap_some)

hi_least : (rate : Rate) (cap_a cap_ab : ℕ) → AreCaps rate cap_a cap_ab → 24672 ≤ wait_of (bits_of rate) cap_a
hi_least rate cap_a cap_ab caps = grind (arith, upto_ceil, gap_some)

pub hi_no_greater : (rate : Rate) (cap_a cap_ab : ℕ) → AreCaps rate cap_a cap_ab → (tight_bound_of rate cap_a cap_ab).hi ≤ (bound_of rate cap_a cap_ab).hi
hi_no_greater rate cap_a cap_ab caps =
    let more : cap_ab * 24672 ≤ cap_ab * wait_of (bits_of rate) cap_a = mul-le-mul_left cap_ab (hi_least rate cap_a cap_ab caps) in
    omega (arith, more)

-- ---- credit

low_of : (rate gap cap gone : ℕ) (b : Bool) (y : ℤ) → rate ≡ gap + cap → gone ≤ 12336 → pos 0 ≤ℤ (y +ℤ pos ((gap + cap) * cond b gone 12336))
    → (pos 0 -ℤ pos (12336 * rate)) ≤ℤ y
low_of rate gap cap gone true y e size low =
    let most : (gap + cap) * gone ≤ (gap + cap) * 12336 = mul-le-mul_left (gap + cap) size in
    omega (arith, ints, e, low, most)
low_of rate gap cap gone false y e size low = omega (arith, ints, e, low)

rate_is : (rate : Rate) (cap_a cap_ab : ℕ) → AreCaps rate cap_a cap_ab → bits_of rate ≡ (bits_of rate - cap_a) + cap_a
rate_is rate cap_a cap_ab caps = omega (arith, caps.0, caps.1)

pub credit_tight : (laws : BitLaws) (input : PortInput) (cap_a cap_ab t : ℕ) → HasCaps input cap_a cap_ab
    → IsCreditBWithin input (tight_bound_of input.rate cap_a cap_ab) t
credit_tight laws input cap_a cap_ab t has =
    let b : BeginsAt input (bits_of input.rate - cap_a) cap_a cap_ab t = begins laws input cap_a cap_ab t has in
    let high : credit_b_at input t ≤ℤ pos (24672 * cap_ab) = b.high_b in
    record {
      low = low_of (bits_of input.rate) (bits_of input.rate - cap_a) cap_a (12336 - bits_left input t) (was_on_line input B t) (credit_b_at input t)
          (rate_is input.rate cap_a cap_ab has.caps) (omega arith) b.low;
      high = omega (arith, ints, high);
    }

higher : (y : ℤ) (m n : ℕ) → y ≤ℤ pos m → m ≤ n → y ≤ℤ pos n
higher y m n h l = omega (arith, ints, h, l)

pub credit_wide : (laws : BitLaws) (input : PortInput) (cap_a cap_ab t : ℕ) → HasCaps input cap_a cap_ab
    → IsCreditBWithin input (bound_of input.rate cap_a cap_ab) t
credit_wide laws input cap_a cap_ab t has =
    let tight : IsCreditBWithin input (tight_bound_of input.rate cap_a cap_ab) t = credit_tight laws input cap_a cap_ab t has in
    record {
      low = tight.low;
      high = higher (credit_b_at input t) (tight_bound_of input.rate cap_a cap_ab).hi (bound_of input.rate cap_a cap_ab).hi tight.high (hi_no_greater input.rate cap_a cap_ab has.caps);
    }

-- ---- waits

-- bit times of waiting in a row count up
pub run_waited : (input : PortInput) (from n : ℕ) → ((t : ℕ) → from ≤ t → t < from + n → is_kept_waiting input t ≡ true) → n ≤ waited input (from + n)
run_waited input from zero each = omega arith
run_waited input from (suc n) each =
    let at : suc (from + n) ≡ from + suc n = omega arith in
    let here : waited input (suc (from + n)) ≡ suc (waited input (from + n)) = waited-yes input (from + n) (each (from + n) (omega arith) (omega arith)) in
    let before : n ≤ waited input (from + n) = run_waited input from n (λ t low high. each t low (omega (arith, high))) in
    let same : waited input (suc (from + n)) ≡ waited input (from + suc n) = ap (waited input) at in
    omega (arith, here, before, same)

pub wait_product : (laws : BitLaws) (input : PortInput) (cap_a cap_ab bits : ℕ) → HasCaps input cap_a cap_ab → HasWait input bits
    → (bits_of input.rate - cap_a) * bits ≤ 12336 * (bits_of input.rate + (bits_of input.rate - cap_a))
wait_product laws input cap_a cap_ab bits has wait =
    let r : ℕ = bits_of input.rate in
    let gap : ℕ = r - cap_a in
    let t : ℕ = wait.from + bits in
    let b : BeginsAt input gap cap_a cap_ab t = begins laws input cap_a cap_ab t has in
    let worst : gap * waited input t ≤ 12336 * (gap + cap_a) + 12336 * gap = b.worst in
    let least : gap * bits ≤ gap * waited input t = mul-le-mul_left gap (run_waited input wait.from bits wait.each) in
    omega (arith, worst, least, rate_is input.rate cap_a cap_ab has.caps)

pub wait_tight : (laws : BitLaws) (input : PortInput) (cap_a cap_ab bits : ℕ) → HasCaps input cap_a cap_ab → HasWait input bits
    → bits ≤ (tight_bound_of input.rate cap_a cap_ab).wait
wait_tight laws input cap_a cap_ab bits has wait =
    let r : ℕ = bits_of input.rate in
    upto_quotient bits (r - cap_a) (12336 * (r + (r - cap_a))) (gap_some input.rate cap_a cap_ab has.caps) (wait_product laws input cap_a cap_ab bits has wait)

pub wait_wide : (laws : BitLaws) (input : PortInput) (cap_a cap_ab bits : ℕ) → HasCaps input cap_a cap_ab → HasWait input bits
    → bits ≤ (bound_of input.rate cap_a cap_ab).wait
wait_wide laws input cap_a cap_ab bits has wait =
    let tight : bits ≤ (tight_bound_of input.rate cap_a cap_ab).wait = wait_tight laws input cap_a cap_ab bits has wait in
    let more : (tight_bound_of input.rate cap_a cap_ab).wait ≤ (bound_of input.rate cap_a cap_ab).wait = wait_no_greater input.rate cap_a cap_ab has.caps in
    omega (arith, tight, more)

pub worst_one : (input : PortInput) (one other : ℕ) → IsWorstWait input one → IsWorstWait input other → one ≡ other
worst_one input one other first second =
    let a : one ≤ other = second.most one first.there in
    let b : other ≤ one = first.most other second.there in
    omega (arith, a, b)
