-- Why what class A takes of the line in a window stays within its bound.
use Rattle.std.proofs.Common.{◌≡◌, ℕ, zero, suc, ◌+◌, ◌-◌, ◌*◌, ◌<◌, ◌≤◌, Bool, true, false, cond, List, [], ◌∷◌, refl, sym, ◌∙◌, ap, subst, arith}
use Rattle.std.specs.Prelude.{All, count_by, sum_by, ℤ, pos, ◌+ℤ◌, ◌-ℤ◌, ◌≤ℤ◌}
use Rattle.std.specs.List.{range_with_len}
use Rattle.std.proofs.lemmas.{Int.ints, Int.clamps, List.Sums.sum_by-cons}
use Rattle.srp_base.proofs.Arithmetic.{mul_add, spent_sum}
use Rattle.srp_base.specs.declared.bandwidth.Rate.{Rate}
use Rattle.srp_base.specs.Bandwidth.{bits_of}
use Rattle.credit_shaper.specs.{A, Shaper, SlopeChange, PortInput, credit_after, does_send, IsPortInput, no_slopes, does_wait, port_at, port_in, credit_a_at, slope_a_at, is_on_line, greatest_slope_a, hi_credit, lo_credit, IsStretch, IsCreditAWithin, bits_a, area_a, IsWindowAWithin, DoesWaitA, IsWaitAWithin}
use Rattle.credit_shaper.specs.Trace.{Port}
use Rattle.credit_shaper.proofs.{PortLemmas.shaper-port_in, PortLemmas.rate_is, PortLemmas.last_change_all, BoundLemmas.credit_within}

-- a bit time raises a credit by no more than the slope, less the rate where the class sends
pub spent_by : (rate slope : ℕ) (sends waits : Bool) (c : ℤ)
    → (credit_after rate slope sends waits c +ℤ pos (rate * cond sends 1 0)) ≤ℤ (c +ℤ pos slope)
spent_by rate slope true waits c = omega (arith, ints)
spent_by rate slope false true c = omega (arith, ints)
spent_by rate slope false false c = omega (arith, ints, clamps)

spent : (input : PortInput) (t : ℕ)
    → (credit_a_at input (suc t) +ℤ pos (bits_of input.rate * cond (is_on_line input A t) 1 0)) ≤ℤ (credit_a_at input t +ℤ pos (slope_a_at input t))
unfolding port_at
spent input t =
    let q : Port = port_in input t in
    let is = shaper-port_in input t in
    subst (λ (s : Shaper). (credit_after (bits_of s.rate) s.slope_a (does_send A q.line) (does_wait A q.waiting) s.credit_a
    +ℤ pos (bits_of input.rate * cond (does_send A q.line) 1 0)) ≤ℤ (credit_a_at input t +ℤ pos (slope_a_at input t)))
    (sym is)
    (subst (λ (r : Rate). (credit_after (bits_of r) (slope_a_at input t) (does_send A q.line) (does_wait A q.waiting) (credit_a_at input t)
    +ℤ pos (bits_of input.rate * cond (does_send A q.line) 1 0)) ≤ℤ (credit_a_at input t +ℤ pos (slope_a_at input t)))
    (sym (rate_is input t))
    (spent_by (bits_of input.rate) (slope_a_at input t) (does_send A q.line) (does_wait A q.waiting) (credit_a_at input t)))

risen_sum : (w x y z : ℤ) (a b s : ℕ) → x ≡ w +ℤ pos a → y ≡ x +ℤ pos b → z ≡ y → s ≡ a + b → z ≡ w +ℤ pos s
risen_sum w x y z a b s first rest last e = omega (arith, ints, first, rest, last, e)

-- what class A takes is what the slopes give, and what the credit falls by
spent_over : (input : PortInput) (from n : ℕ)
    → (credit_a_at input (from + n) +ℤ pos (bits_of input.rate * count_by (is_on_line input A) (range_with_len from n)))
    ≤ℤ (credit_a_at input from +ℤ pos (sum_by (slope_a_at input) (range_with_len from n)))
spent_over input from zero =
    let at : from + 0 ≡ from = omega arith in
    let same : credit_a_at input (from + 0) ≡ credit_a_at input from = ap (credit_a_at input) at in
    omega (arith, ints, same)
spent_over input from (suc n) =
    let bits = sum_by-cons (λ t. cond (is_on_line input A t) 1 0) from (range_with_len (from + 1) n) in
    let area = sum_by-cons (slope_a_at input) from (range_with_len (from + 1) n) in
    let rate : ℕ = bits_of input.rate in
    let one : ℕ = cond (is_on_line input A from) 1 0 in
    let more : ℕ = count_by (is_on_line input A) (range_with_len (from + 1) n) in
    let product : rate * (one + more) ≡ rate * one + rate * more = mul_add rate one more in
    let split : rate * count_by (is_on_line input A) (range_with_len from (suc n)) ≡ rate * one + rate * more = ap (λ k. rate * k) bits ∙ product in
    let at : from + 1 + n ≡ from + suc n = omega arith in
    let same : credit_a_at input (from + 1 + n) ≡ credit_a_at input (from + suc n) = ap (credit_a_at input) at in
    let next : credit_a_at input (suc from) ≡ credit_a_at input (from + 1) = ap (credit_a_at input) (omega arith) in
    let first = spent input from in
    let rest = spent_over input (from + 1) n in
    spent_sum (credit_a_at input from) (credit_a_at input (from + 1)) (credit_a_at input (from + suc n))
    (rate * one) (rate * more) (rate * count_by (is_on_line input A) (range_with_len from (suc n)))
    (slope_a_at input from) (sum_by (slope_a_at input) (range_with_len (from + 1) n)) (sum_by (slope_a_at input) (range_with_len from (suc n)))
    (subst (λ (c : ℤ). (c +ℤ pos (rate * one)) ≤ℤ (credit_a_at input from +ℤ pos (slope_a_at input from))) next first)
    (subst (λ (c : ℤ). (c +ℤ pos (rate * more)) ≤ℤ (credit_a_at input (from + 1) +ℤ pos (sum_by (slope_a_at input) (range_with_len (from + 1) n)))) same rest)
    split area

greatest_bounds : (xs : List SlopeChange) → All (λ c. c.slope_a ≤ greatest_slope_a xs) xs
greatest_bounds [] k d l = absurd (omega (arith, l))
greatest_bounds (x ∷ xs) zero d l = omega arith
greatest_bounds (x ∷ xs) (suc k) d l = omega (arith, greatest_bounds xs k d (omega (arith, l)))

-- a whole run is a stretch for the slopes from 0 to the greatest
pub whole_run : (input : PortInput) (to : ℕ) → 0 < to → IsStretch input 0 (greatest_slope_a input.slopes) 0 to
unfolding port_at
whole_run input to some =
    record {
      some = some;
      from_zero = refl;
      slopes = λ t _ _. (
        omega arith,
        last_change_all (λ c. c.slope_a ≤ greatest_slope_a input.slopes) t no_slopes input.slopes (omega arith) (greatest_bounds input.slopes),
      );
    }

within_window : (rate bits area : ℕ) (lo hi x y : ℤ) → (y +ℤ pos (rate * bits)) ≤ℤ (x +ℤ pos area) → x ≤ℤ hi → lo ≤ℤ y
    → pos (rate * bits) ≤ℤ (pos area +ℤ hi -ℤ lo)
within_window rate bits area lo hi x y h top low = omega (arith, ints, h, top, low)

pub window_within : (input : PortInput) (least most from to a b : ℕ) → IsPortInput input → IsStretch input least most from to
    → from ≤ a → a ≤ b → b ≤ to → IsWindowAWithin input least most a b
window_within input least most from to a b valid s low mid high =
    let at : a + (b - a) ≡ b = omega (arith, mid) in
    let before : IsCreditAWithin input least most a = credit_within input least most from to a valid s low (omega (arith, mid, high)) in
    let after : IsCreditAWithin input least most b = credit_within input least most from to b valid s (omega (arith, low, mid)) high in
    within_window (bits_of input.rate) (bits_a input a b) (area_a input a b) (lo_credit (bits_of input.rate) least) (hi_credit most)
    (credit_a_at input a) (credit_a_at input b)
    (subst (λ (t : ℕ). (credit_a_at input t +ℤ pos (bits_of input.rate * bits_a input a b)) ≤ℤ (credit_a_at input a +ℤ pos (area_a input a b))) at (spent_over input a (b - a)))
    before.high after.low

-- while class A waits and doesn't send, its credit rises by the slope
waited : (input : PortInput) (t : ℕ) → does_wait A (port_in input t).waiting ≡ true → is_on_line input A t ≡ false
    → credit_a_at input (suc t) ≡ credit_a_at input t +ℤ pos (slope_a_at input t)
unfolding port_at
waited input t waits idle =
    let q : Port = port_in input t in
    let is = shaper-port_in input t in
    rw (waits, idle, ap (λ s. s.credit_a) is, ap (λ s. s.slope_a) is) refl

waited_over : (input : PortInput) (from n : ℕ) → DoesWaitA input from (from + n)
    → credit_a_at input (from + n) ≡ credit_a_at input from +ℤ pos (sum_by (slope_a_at input) (range_with_len from n))
waited_over input from zero wait = grind (arith, ints)
waited_over input from (suc n) wait =
    let here = wait from (omega arith) (omega arith) in
    let one : from + 1 ≡ suc from = omega arith in
    let first : credit_a_at input (from + 1) ≡ credit_a_at input from +ℤ pos (slope_a_at input from) =
    ap (credit_a_at input) one ∙ waited input from here.0 here.1 in
    let rest : credit_a_at input (from + 1 + n) ≡ credit_a_at input (from + 1) +ℤ pos (sum_by (slope_a_at input) (range_with_len (from + 1) n)) =
    waited_over input (from + 1) n (λ t low high. wait t (omega (arith, low)) (omega (arith, high))) in
    let last : credit_a_at input (from + suc n) ≡ credit_a_at input (from + 1 + n) = ap (credit_a_at input) (omega arith) in
    let area = sum_by-cons (slope_a_at input) from (range_with_len (from + 1) n) in
    risen_sum (credit_a_at input from) (credit_a_at input (from + 1)) (credit_a_at input (from + 1 + n)) (credit_a_at input (from + suc n))
    (slope_a_at input from) (sum_by (slope_a_at input) (range_with_len (from + 1) n)) (sum_by (slope_a_at input) (range_with_len from (suc n)))
    first rest last area

within_wait : (area : ℕ) (lo hi x y : ℤ) → y ≡ x +ℤ pos area → y ≤ℤ hi → lo ≤ℤ x → pos area ≤ℤ (hi -ℤ lo)
within_wait area lo hi x y e top low = omega (arith, ints, e, top, low)

pub wait_within : (input : PortInput) (least most from to a b : ℕ) → IsPortInput input → IsStretch input least most from to
    → from ≤ a → a ≤ b → b ≤ to → IsWaitAWithin input least most a b
wait_within input least most from to a b valid s low mid high wait =
    let at : a + (b - a) ≡ b = omega (arith, mid) in
    let before : IsCreditAWithin input least most a = credit_within input least most from to a valid s low (omega (arith, mid, high)) in
    let after : IsCreditAWithin input least most b = credit_within input least most from to b valid s (omega (arith, low, mid)) high in
    within_wait (area_a input a b) (lo_credit (bits_of input.rate) least) (hi_credit most) (credit_a_at input a) (credit_a_at input b)
    (sym (ap (credit_a_at input) at) ∙ waited_over input a (b - a) (λ t from' to'. wait t from' (omega (arith, to', at))))
    after.high before.low

-- an area is no less than its least slope gives
area_least : (input : PortInput) (least from n : ℕ) → ((t : ℕ) → from ≤ t → t < from + n → least ≤ slope_a_at input t)
    → least * n ≤ sum_by (slope_a_at input) (range_with_len from n)
area_least input least from zero each = omega arith
area_least input least from (suc n) each =
    let here : least ≤ slope_a_at input from = each from (omega arith) (omega arith) in
    let rest : least * n ≤ sum_by (slope_a_at input) (range_with_len (from + 1) n) =
    area_least input least (from + 1) n (λ t low high. each t (omega (arith, low)) (omega (arith, high))) in
    let area = sum_by-cons (slope_a_at input) from (range_with_len (from + 1) n) in
    omega (arith, here, rest, area)

wait_number : (area least most rate : ℕ) → pos area ≤ℤ (hi_credit most -ℤ lo_credit rate least)
    → area + 12336 * least ≤ 12336 * most + 12336 * rate
wait_number area least most rate h = omega (arith, ints, h)

-- so a wait takes no more bit times than the least slope gives
pub wait_at_most : (input : PortInput) (least most from to a b : ℕ) → IsPortInput input → IsStretch input least most from to
    → from ≤ a → a ≤ b → b ≤ to → DoesWaitA input a b → least * (b - a) + 12336 * least ≤ 12336 * most + 12336 * bits_of input.rate
wait_at_most input least most from to a b valid s low mid high wait =
    let area : area_a input a b + 12336 * least ≤ 12336 * most + 12336 * bits_of input.rate =
    wait_number (area_a input a b) least most (bits_of input.rate) (wait_within input least most from to a b valid s low mid high wait) in
    let each : least * (b - a) ≤ area_a input a b =
    area_least input least a (b - a) (λ t from' to'. (s.slopes t (omega (arith, low, from')) (omega (arith, to', mid, high))).0) in
    omega (arith, area, each)
