-- What holds of a port at every bit time.
use Rattle.std.proofs.Common.{◌≡◌, ℕ, zero, suc, ◌+◌, ◌*◌, ◌^◌, ◌<◌, ◌≤◌, Bool, true, false, cond, List, [], ◌∷◌, Some, None, refl, sym, ◌∙◌, ap, subst, arith}
use Rattle.std.specs.Prelude.{All, nat_le, ℤ}
use Rattle.std.proofs.Math.Nat.{mul-le-mul}
use Rattle.std.proofs.lemmas.{Int.ints, Int.clamps, List.Elements.All-head, List.Elements.All-tail}
use Rattle.srp_base.specs.declared.bandwidth.Rate.{Rate}
use Rattle.srp_base.specs.declared.bandwidth.Rate.TheVariants.{M100, G1, G10}
use Rattle.srp_base.specs.Bandwidth.{bits_of}
use Rattle.credit_shaper.specs.{A, B, Shaper, SlopeChange, PortInput, credit_after, does_send, IsWithin, IsInRange, IsPortInput, last_change, no_slopes, slopes_at, head_of, turn_of, does_wait, starts, with_start, with_arrivals, port_at, port_in}
use Rattle.credit_shaper.specs.Trace.{Port}

-- a fact of every change holds of the slopes in force
pub last_change_all : (P : SlopeChange → Type 0) (t : ℕ) (current : SlopeChange) (xs : List SlopeChange) → P current → All P xs
    → P (last_change t current xs)
last_change_all P t current [] here all = here
last_change_all P t current (x ∷ xs) here all =
    let one : P x = All-head P x xs all in
    let rest : All P xs = All-tail P x xs all in
    elim (nat_le x.bit t) as (λ b. P (last_change t (cond b x current) xs)) [
      | true ↦ last_change_all P t x xs one rest
      | false ↦ last_change_all P t current xs here rest
    ]

pub some_rate : (rate : Rate) → 0 < bits_of rate
some_rate rate = grind arith

pub rate_at_most : (rate : Rate) → bits_of rate ≤ 10000000000
rate_at_most rate = grind arith

-- the slopes in force are below the rate
pub slope_a_below : (input : PortInput) (t : ℕ) → IsPortInput input → (slopes_at input t).slope_a < bits_of input.rate
slope_a_below input t valid =
    last_change_all (λ c. c.slope_a < bits_of input.rate) t no_slopes input.slopes (some_rate input.rate) (λ k d l. (valid.slopes.below k d l).0)

pub slope_b_below : (input : PortInput) (t : ℕ) → IsPortInput input → (slopes_at input t).slope_b < bits_of input.rate
slope_b_below input t valid =
    last_change_all (λ c. c.slope_b < bits_of input.rate) t no_slopes input.slopes (some_rate input.rate) (λ k d l. (valid.slopes.below k d l).1)

-- a start changes no credit, slope or rate
pub shaper-with_start : (t : ℕ) (p : Port) → (with_start t p).shaper ≡ p.shaper
shaper-with_start t p = grind arith

-- the shaper in a bit time: the credits as it began, with the slopes in force
pub shaper-port_in : (input : PortInput) (t : ℕ)
    → (port_in input t).shaper ≡ record (port_at input t).shaper { slope_a = (slopes_at input t).slope_a; slope_b = (slopes_at input t).slope_b }
shaper-port_in input t = shaper-with_start t (with_arrivals input t (port_at input t))

pub rate_is : (input : PortInput) (t : ℕ) → (port_at input t).shaper.rate ≡ input.rate
unfolding port_at
rate_is input zero = refl
rate_is input (suc t) = ap (λ s. s.rate) (shaper-port_in input t) ∙ rate_is input t

-- one bit time changes a credit by at most the rate
credit_moves : (rate slope most : ℕ) (sends waits : Bool) (c : ℤ) → slope < rate → IsWithin most c
    → IsWithin (rate + most) (credit_after rate slope sends waits c)
credit_moves rate slope most true waits c l within = (omega (arith, ints, within.0, within.1), omega (arith, ints, within.0, within.1))
credit_moves rate slope most false true c l within = (omega (arith, ints, within.0, within.1), omega (arith, ints, within.0, within.1))
credit_moves rate slope most false false c l within = (omega (arith, ints, clamps, within.0, within.1), omega (arith, ints, clamps, within.0, within.1))

-- a credit after a bit time, where the shaper's rate is the input's
reach_more : (rate other slope t : ℕ) (sends waits : Bool) (c : ℤ) → other ≡ rate → slope < rate → IsWithin (t * rate) c
    → IsWithin (suc t * rate) (credit_after other slope sends waits c)
reach_more rate other slope t sends waits c same l within =
    let more : rate + t * rate ≡ suc t * rate = omega arith in
    subst (λ (r : ℕ). IsWithin (suc t * rate) (credit_after r slope sends waits c)) (sym same)
    (subst (λ (m : ℕ). IsWithin m (credit_after rate slope sends waits c)) more (credit_moves rate slope (t * rate) sends waits c l within))

-- no credit gets further from 0 than the rate for each bit time
pub credit_a_reach : (input : PortInput) (t : ℕ) → IsPortInput input → IsWithin (t * bits_of input.rate) (port_at input t).shaper.credit_a
unfolding port_at
credit_a_reach input zero valid = (omega (arith, ints), omega (arith, ints))
credit_a_reach input (suc t) valid =
    let p : Port = port_in input t in
    subst (λ (s : Shaper). IsWithin (suc t * bits_of input.rate) (credit_after (bits_of s.rate) s.slope_a (does_send A p.line) (does_wait A p.waiting) s.credit_a))
    (sym (shaper-port_in input t))
    (reach_more (bits_of input.rate) (bits_of (port_at input t).shaper.rate) (slopes_at input t).slope_a t (does_send A p.line) (does_wait A p.waiting)
    (port_at input t).shaper.credit_a (ap bits_of (rate_is input t)) (slope_a_below input t valid) (credit_a_reach input t valid))

pub credit_b_reach : (input : PortInput) (t : ℕ) → IsPortInput input → IsWithin (t * bits_of input.rate) (port_at input t).shaper.credit_b
unfolding port_at
credit_b_reach input zero valid = (omega (arith, ints), omega (arith, ints))
credit_b_reach input (suc t) valid =
    let p : Port = port_in input t in
    subst (λ (s : Shaper). IsWithin (suc t * bits_of input.rate) (credit_after (bits_of s.rate) s.slope_b (does_send B p.line) (does_wait B p.waiting) s.credit_b))
    (sym (shaper-port_in input t))
    (reach_more (bits_of input.rate) (bits_of (port_at input t).shaper.rate) (slopes_at input t).slope_b t (does_send B p.line) (does_wait B p.waiting)
    (port_at input t).shaper.credit_b (ap bits_of (rate_is input t)) (slope_b_below input t valid) (credit_b_reach input t valid))

far_within : (rate t : ℕ) (c : ℤ) → rate ≤ 10000000000 → t ≤ 2 ^ 41 → IsWithin (t * rate) c → IsWithin (2 ^ 100) c
far_within rate t c fast short within = grind (arith, mul-le-mul, ints)

-- so a shaper's step may be asked for in each bit time
pub in_range : (input : PortInput) (t : ℕ) → IsPortInput input → t ≤ 2 ^ 41 → IsInRange (port_in input t).shaper
in_range input t valid short =
    let rate : (port_at input t).shaper.rate ≡ input.rate = rate_is input t in
    subst IsInRange (sym (shaper-port_in input t))
    (record {
      slope_a = subst (λ (r : Rate). (slopes_at input t).slope_a < bits_of r) (sym rate) (slope_a_below input t valid);
      slope_b = subst (λ (r : Rate). (slopes_at input t).slope_b < bits_of r) (sym rate) (slope_b_below input t valid);
      credit_a = far_within (bits_of input.rate) t (port_at input t).shaper.credit_a (rate_at_most input.rate) short (credit_a_reach input t valid);
      credit_b = far_within (bits_of input.rate) t (port_at input t).shaper.credit_b (rate_at_most input.rate) short (credit_b_reach input t valid);
    })
