-- Bit times in which nothing happens but the credits' steps are one jump.
use Rattle.std.proofs.Common.{◌≡◌, ℕ, zero, suc, ◌+◌, ◌-◌, ◌*◌, ◌<◌, ◌≤◌, Bool, true, false, cond, List, [], length, Some, None, refl, sym, ◌∙◌, ap, arith, inl, inr, append-nil}
use Rattle.std.specs.Prelude.{nat_le, is_some, ◌&&◌, ℤ, pos, ◌+ℤ◌, ◌<ℤ◌, int_le}
use Rattle.std.proofs.lemmas.{Bool.cond-false, Bool.lt-leb}
use Rattle.srp_base.proofs.Arithmetic.{not_zero}
use Rattle.srp_base.specs.Bandwidth.{bits_of}
use Rattle.credit_shaper.specs.{Traffic, A, B, Other, Line, Free, Shaper, Arrival, PortInput, Departure, PortTrace, credit_after_bits, after_bits, slopes_at, arrivals_at, head_of, turn_of, does_wait, starts, with_start, with_arrivals, with_credits, within_bit, port_at, port_in, AreHeads, HasReached, IsQuiet, IsIdle, IsShort, waiting_of, port_of, has_frame, moved_to}
use Rattle.credit_shaper.specs.Trace.{Port}
use Rattle.credit_shaper.proofs.{CreditLemmas.after_bits_is, CreditLemmas.credit-waits, MomentLemmas.arrivals_none, MomentLemmas.slopes_reached, QueueLemmas.waits_is}

-- a port after some of the credits' steps
abbrev pub jumped : ℕ → Port → Port
jumped n p = record p { shaper = after_bits n p.line (does_wait A p.waiting) (does_wait B p.waiting) p.shaper }

-- a bit time in which nothing arrives, changes or starts leaves the port
within_quiet : (input : PortInput) (t : ℕ) (p : Port) → arrivals_at input.arrivals t ≡ []
    → (slopes_at input t).slope_a ≡ p.shaper.slope_a → (slopes_at input t).slope_b ≡ p.shaper.slope_b
    → with_start t p ≡ p → within_bit input t p ≡ p
within_quiet input t p none a b start = grind (arith, append-nil)

start_busy : (t : ℕ) (p : Port) → t < p.free_from → with_start t p ≡ p
start_busy t p busy = cond-false (nat_le p.free_from t) _ _ (lt-leb p.free_from t busy)

start_idle : (t : ℕ) (p : Port) → p.line ≡ Free → head_of (turn_of p.shaper p.waiting) p.waiting ≡ None → with_start t p ≡ p
start_idle t p free none = grind arith

-- one step more
jumped_more : (n : ℕ) (p : Port) → with_credits (jumped n p) ≡ jumped (suc n) p
unfolding after_bits
jumped_more n p = refl

pub jumped_none : (p : Port) → jumped 0 p ≡ p
unfolding after_bits
jumped_none p = refl

port_at_next : (input : PortInput) (t : ℕ) → port_at input (suc t) ≡ with_credits (within_bit input t (port_at input t))
unfolding port_at
port_at_next input t = refl

-- what one bit time leaves alone some leave alone
pub stretch : (input : PortInput) (t n : ℕ) (p : Port) → port_in input t ≡ p
    → ((k : ℕ) → 0 < k → k < suc n → within_bit input (t + k) (jumped k p) ≡ jumped k p)
    → port_at input (t + suc n) ≡ jumped (suc n) p
stretch input t zero p here quiet =
    let one : t + 1 ≡ suc t = omega arith in
    ap (port_at input) one ∙ (port_at_next input t ∙ (ap with_credits (here ∙ sym (jumped_none p)) ∙ jumped_more 0 p))
stretch input t (suc n) p here quiet =
    let one : t + suc (suc n) ≡ suc (t + suc n) = omega arith in
    let before : port_at input (t + suc n) ≡ jumped (suc n) p = stretch input t n p here (λ k some l. quiet k some (omega (arith, l))) in
    ap (port_at input) one
    ∙ (port_at_next input (t + suc n)
    ∙ (ap (λ q. with_credits (within_bit input (t + suc n) q)) before
    ∙ (ap with_credits (quiet (suc n) (omega arith) (omega arith)) ∙ jumped_more (suc n) p)))

no_turn_for : (waits : Bool) (rate slope n : ℕ) (c : ℤ) → IsShort waits c slope n
    → (waits && int_le (pos 0) (credit_after_bits n rate slope false waits c)) ≡ false
no_turn_for waits rate slope n c h1 = grind (arith, credit-waits, not_zero)

-- a trace's queues wait where the port's do
pub waits : (arrivals : List Arrival) (trace : PortTrace) (traffic : Traffic) → AreHeads arrivals trace.came trace.heads
    → trace.came ≤ length arrivals → does_wait traffic (waiting_of arrivals trace) ≡ has_frame trace traffic
waits arrivals trace traffic heads within = waits_is trace.heads arrivals trace.came traffic heads within

no_head : (traffic : Traffic) (xs : List Arrival) → does_wait traffic xs ≡ false → head_of traffic xs ≡ None
no_head traffic xs = grind arith

-- on a free line nothing starts while the classes that wait are short of credit
idle_start : (arrivals : List Arrival) (sent : List Departure) (trace : PortTrace) (t n : ℕ)
    → AreHeads arrivals trace.came trace.heads → trace.came ≤ length arrivals → IsIdle trace n
    → with_start t (jumped n (port_of arrivals sent trace)) ≡ jumped n (port_of arrivals sent trace)
idle_start arrivals sent trace t n heads within idle = grind (arith, waits, after_bits_is, no_turn_for, cond-false, no_head, start_idle)

-- up to the next moment each bit time leaves the port alone
pub quiet_bit : (input : PortInput) (sent : List Departure) (trace : PortTrace) (next k : ℕ)
    → AreHeads input.arrivals trace.came trace.heads → HasReached input (trace.bit + 1) trace → HasReached input next trace
    → IsQuiet trace next → 0 < k → trace.bit + k < next
    → within_bit input (trace.bit + k) (jumped k (port_of input.arrivals sent trace)) ≡ jumped k (port_of input.arrivals sent trace)
quiet_bit input sent trace next k heads now later quiet some l =
    let p : Port = port_of input.arrivals sent trace in
    let is = after_bits_is k trace.line (does_wait A p.waiting) (does_wait B p.waiting) trace.shaper in
    let none : arrivals_at input.arrivals (trace.bit + k) ≡ [] =
    arrivals_none input.arrivals (trace.bit + 1) next trace.came (trace.bit + k) now.arrivals later.arrivals (omega (arith, some)) l in
    let force = slopes_reached input.slopes (trace.bit + 1) next trace.changed (trace.bit + k) now.changes later.changes (omega arith) l in
    let start : with_start (trace.bit + k) (jumped k p) ≡ jumped k p =
    elim quiet [
      | inl busy ↦ start_busy (trace.bit + k) (jumped k p) (omega (arith, busy, l))
      | inr idle ↦ idle_start input.arrivals sent trace (trace.bit + k) k heads now.arrivals.within (idle k l)
    ] in
    within_quiet input (trace.bit + k) (jumped k p) none
    (ap (λ c. c.slope_a) force ∙ (sym now.slope_a ∙ sym (ap (λ r. r.slope_a) is)))
    (ap (λ c. c.slope_b) force ∙ (sym now.slope_b ∙ sym (ap (λ r. r.slope_b) is)))
    start

-- the trace that has moved on stands for the port at its bit time
pub moved_port : (input : PortInput) (sent : List Departure) (trace : PortTrace) (next : ℕ)
    → AreHeads input.arrivals trace.came trace.heads → HasReached input (trace.bit + 1) trace → HasReached input next trace
    → IsQuiet trace next → trace.bit < next → port_of input.arrivals sent trace ≡ port_in input trace.bit
    → port_of input.arrivals sent (moved_to next (next - trace.bit) trace) ≡ port_at input next
moved_port input sent trace next heads now later quiet l here =
    let p : Port = port_of input.arrivals sent trace in
    let n : ℕ = next - trace.bit - 1 in
    let bits : next - trace.bit ≡ suc n = omega (arith, l) in
    let at : trace.bit + suc n ≡ next = omega (arith, l) in
    let wa : does_wait A p.waiting ≡ has_frame trace A = waits input.arrivals trace A heads now.arrivals.within in
    let wb : does_wait B p.waiting ≡ has_frame trace B = waits input.arrivals trace B heads now.arrivals.within in
    let moved : port_of input.arrivals sent (moved_to next (next - trace.bit) trace) ≡ jumped (next - trace.bit) p = rw (wa, wb) refl in
    moved ∙ (ap (λ m. jumped m p) bits
    ∙ (sym (stretch input trace.bit n p (sym here) (λ k some h. quiet_bit input sent trace next k heads now later quiet some (omega (arith, h, at))))
    ∙ ap (port_at input) at))
