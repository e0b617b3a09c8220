-- What starts in a bit time, and that what rests goes on resting.
use Rattle.std.proofs.Common.{◌≡◌, ℕ, ◌≤◌, Bool, true, false, cond, List, length, get_or, Some, None, refl, sym, ◌∙◌, ap, subst, arith, inl, inr}
use Rattle.std.specs.Prelude.{nat_le, is_some, ◌&&◌, ℤ, pos, ◌<ℤ◌, int_le, if◌then◌else◌}
use Rattle.std.proofs.lemmas.{Bool.cases_Bool, Bool.and_parts, Bool.cond-true, Bool.cond-false, Bool.le-leb, Bool.true≢false, Int.ints}
use Rattle.credit_shaper.specs.{A, B, Other, Free, Arrival, PortInput, Departure, PortTrace, IsPortInput, head_of, turn_of, starts, with_start, frame_of, head_index, AreHeads, IsFirst, IsIdle, IsShort, port_of, turn_in, has_frame}
use Rattle.credit_shaper.specs.Trace.{Port}
use Rattle.credit_shaper.proofs.{MomentLemmas.blank, QueueLemmas.waits_is, TraceLemmas.free_line, CreditLemmas.short_if}

-- a start by the frame that starts
pub start_found : (t : ℕ) (p : Port) (x : Arrival)
    → Some x ≡ (if nat_le p.free_from t then head_of (turn_of p.shaper p.waiting) p.waiting else None)
    → with_start t p ≡ starts t p (Some x)
start_found t p x = grind arith

pub start_none : (t : ℕ) (p : Port)
    → None ≡ (if nat_le p.free_from t then head_of (turn_of p.shaper p.waiting) p.waiting else None)
    → with_start t p ≡ (if nat_le p.free_from t then record p { line = Free } else p)
start_none t p = grind arith

-- a trace at rest stands for a port at rest
pub port_at_rest : (arrivals : List Arrival) (sent : List Departure) (trace : PortTrace)
    → port_of arrivals sent (if nat_le trace.free_from trace.bit then record trace { line = Free } else trace)
    ≡ (if nat_le trace.free_from trace.bit then record (port_of arrivals sent trace) { line = Free } else port_of arrivals sent trace)
port_at_rest arrivals sent trace = grind arith

-- a frame of the arrivals has bits
pub some_bits : (input : PortInput) (trace : PortTrace) (x : Arrival) → IsPortInput input → trace.came ≤ length input.arrivals
    → IsFirst input.arrivals trace x → 336 ≤ x.bits
some_bits input trace x valid within first = grind (arith, blank)

-- where the queue whose turn it is has no frame, neither has the last, and a class that waits has no credit
record HasNoTurn (trace : PortTrace) : Type 0 where
  class_a : has_frame trace A ≡ true → trace.shaper.credit_a <ℤ pos 0
  class_b : has_frame trace B ≡ true → trace.shaper.credit_b <ℤ pos 0
  other : has_frame trace Other ≡ false

no_turn : (trace : PortTrace) → has_frame trace (turn_in trace) ≡ false → HasNoTurn trace
no_turn trace = grind (arith, cases_Bool, true≢false, and_parts, cond-true, cond-false)

short_now : (waits : Bool) (c : ℤ) (slope : ℕ) → (waits ≡ true → c <ℤ pos 0) → IsShort waits c slope 0
short_now waits c slope h w = let below : c <ℤ pos 0 = h w in omega (arith, ints, below)

-- where nothing starts on a free line, nothing can
pub rest_idle : (arrivals : List Arrival) (trace rested : PortTrace) → AreHeads arrivals trace.came trace.heads
    → trace.came ≤ length arrivals → None ≡ frame_of arrivals trace
    → rested ≡ (if nat_le trace.free_from trace.bit then record trace { line = Free } else trace)
    → rested.free_from ≤ trace.bit → IsIdle rested 0
rest_idle arrivals trace rested heads within none is free =
    let same : rested.free_from ≡ trace.free_from =
    ap (λ r. r.free_from) is ∙ elim (nat_le trace.free_from trace.bit) as (λ b. (cond b (record trace { line = Free }) trace).free_from ≡ trace.free_from) [ true ↦ refl | false ↦ refl ] in
    let now : trace.free_from ≤ trace.bit = omega (arith, same, free) in
    let on : rested ≡ record trace { line = Free } = is ∙ cond-true (nat_le trace.free_from trace.bit) _ _ (le-leb trace.free_from trace.bit now) in
    let empty : has_frame trace (turn_in trace) ≡ false =
    sym (waits_is trace.heads arrivals trace.came (turn_in trace) heads within)
    ∙ ap is_some (sym (free_line arrivals trace heads within now) ∙ sym none) in
    let turn : HasNoTurn trace = no_turn trace empty in
    subst (λ (r : PortTrace). IsIdle r 0) (sym on)
    (record {
      line = refl;
      other = turn.other;
      class_a = short_now (has_frame trace A) trace.shaper.credit_a trace.shaper.slope_a turn.class_a;
      class_b = short_now (has_frame trace B) trace.shaper.credit_b trace.shaper.slope_b turn.class_b;
    })
