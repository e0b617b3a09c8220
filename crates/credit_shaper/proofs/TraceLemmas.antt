-- What a trace's steps make of the port that it stands for.
use Rattle.std.proofs.Common.{◌≡◌, ℕ, ◌+◌, ◌<◌, ◌≤◌, List, ◌++◌, length, get_or, take, Some, None, refl, sym, ◌∙◌, ap, subst, arith, inl, inr, map}
use Rattle.std.specs.Prelude.{nat_le}
use Rattle.std.specs.List.{AllWithin}
use Rattle.std.proofs.lemmas.{List.length-take-le, List.take_all, Bool.cond-true, Bool.le-leb, Bool.cases_lt}
use Rattle.credit_shaper.specs.{A, B, Arrival, PortTrace, SlopeChange, PortInput, Departure, Heads, IsPortInput, no_slopes, slopes_at, arrivals_at, head_of, turn_of, does_wait, with_arrivals, fresh_port, port_at, departures_of, head_index, pending, AreHeads, HasReached, IsReached, IsQuiet, arrival_bit, change_bit, newest, waiting_of, port_of, turn_in, frame_of, has_frame, moved_to}
use Rattle.credit_shaper.proofs.{CreditLemmas.after_bits_is, MomentLemmas.blank, MomentLemmas.arrivals_join, MomentLemmas.slopes_reached, QueueLemmas.frame_at, QueueLemmas.frame_none, QueueLemmas.waits_is, QueueLemmas.pending-join}

-- whose turn it is, by the indices
pub turn_is : (arrivals : List Arrival) (trace : PortTrace) → AreHeads arrivals trace.came trace.heads
    → trace.came ≤ length arrivals → turn_of trace.shaper (waiting_of arrivals trace) ≡ turn_in trace
turn_is arrivals trace heads within = grind (arith, waits_is)

-- on a free line it is the first of the queue whose turn it is
pub free_line : (arrivals : List Arrival) (trace : PortTrace) → AreHeads arrivals trace.came trace.heads
    → trace.came ≤ length arrivals → trace.free_from ≤ trace.bit
    → frame_of arrivals trace ≡ head_of (turn_in trace) (waiting_of arrivals trace)
free_line arrivals trace heads within free = grind (arith, cond-true, le-leb, turn_is)

pub frame_found : (arrivals : List Arrival) (trace : PortTrace) (i : ℕ) → AreHeads arrivals trace.came trace.heads
    → trace.came ≤ length arrivals → trace.free_from ≤ trace.bit → i ≡ head_index trace.heads (turn_in trace)
    → i < trace.came → Some (get_or arrivals i blank) ≡ frame_of arrivals trace
frame_found arrivals trace i heads within free e l = grind (arith, blank, free_line, frame_at)

pub frame_missing : (arrivals : List Arrival) (trace : PortTrace) (i : ℕ) → AreHeads arrivals trace.came trace.heads
    → trace.came ≤ length arrivals → trace.free_from ≤ trace.bit → i ≡ head_index trace.heads (turn_in trace)
    → trace.came ≤ i → None ≡ frame_of arrivals trace
frame_missing arrivals trace i heads within free e l = grind (arith, free_line, frame_none)

-- the step at a bit time's beginning
pub arrivals_step : (input : PortInput) (trace : PortTrace) (came changed : ℕ) (heads : Heads) (slopes : SlopeChange)
    (sent : List Departure) → HasReached input trace.bit trace
    → IsReached arrival_bit (trace.bit + 1) came input.arrivals → IsReached change_bit (trace.bit + 1) changed input.slopes
    → slopes ≡ newest no_slopes (take changed input.slopes)
    → pending heads 0 (take came input.arrivals) ≡ pending trace.heads 0 (take came input.arrivals)
    → port_of input.arrivals sent (record trace {
      came = came;
      changed = changed;
      heads = heads;
      shaper = record trace.shaper { slope_a = slopes.slope_a; slope_b = slopes.slope_b };
    })
    ≡ with_arrivals input trace.bit (port_of input.arrivals sent trace)
arrivals_step input trace came changed heads slopes sent reached arrived changes new same =
    let long : length (take trace.came input.arrivals) ≡ trace.came = length-take-le trace.came input.arrivals reached.arrivals.within in
    let join : pending trace.heads 0 (take trace.came input.arrivals ++ arrivals_at input.arrivals trace.bit)
    ≡ waiting_of input.arrivals trace ++ arrivals_at input.arrivals trace.bit =
    pending-join trace.heads (take trace.came input.arrivals) (arrivals_at input.arrivals trace.bit)
    (λ traffic. omega (arith, long, reached.heads traffic)) in
    let waiting : pending heads 0 (take came input.arrivals) ≡ waiting_of input.arrivals trace ++ arrivals_at input.arrivals trace.bit =
    same ∙ ap (pending trace.heads 0) (arrivals_join input.arrivals trace.bit trace.came came reached.arrivals arrived) ∙ join in
    let force : slopes_at input trace.bit ≡ slopes =
    slopes_reached input.slopes (trace.bit + 1) (trace.bit + 1) changed trace.bit changes changes (omega arith) (omega arith) ∙ sym new in
    rw (waiting, force) refl

-- what has come stays so up to a later bit time, where the next is no earlier
pub reached_until : (input : PortInput) (trace : PortTrace) (s t : ℕ) → HasReached input s trace → s ≤ t
    → AllWithin (λ x. t ≤ x.bit) input.arrivals trace.came (length input.arrivals)
    → AllWithin (λ x. t ≤ x.bit) input.slopes trace.changed (length input.slopes)
    → HasReached input t trace
reached_until input trace s t reached up arrivals changes = grind arith

-- what is quiet up to a bit time is so up to an earlier one
pub quiet_until : (trace : PortTrace) (m n : ℕ) → m ≤ n → IsQuiet trace n → IsQuiet trace m
quiet_until trace m n h1 h2 = grind arith

-- steps of the credits change nothing that has come
pub reached_moved : (input : PortInput) (t next bits : ℕ) (trace : PortTrace) → HasReached input t trace
    → HasReached input t (moved_to next bits trace)
reached_moved input t next bits trace reached = grind (arith, after_bits_is)

-- at the end all arrivals have come
all_come : (input : PortInput) (trace : PortTrace) → IsPortInput input → HasReached input input.end trace
    → length input.arrivals ≤ trace.came
all_come input trace valid reached =
    elim (cases_lt trace.came (length input.arrivals)) [
      | inl l ↦
          let late : input.end ≤ (get_or input.arrivals trace.came blank).bit = reached.arrivals.later trace.came blank (omega arith) l in
          let early : (get_or input.arrivals trace.came blank).bit < input.end = valid.arrivals.in_time trace.came blank l in
          absurd (omega (arith, late, early))
      | inr l ↦ l
    ]

-- what a run answers
pub departures_found : (input : PortInput) (trace : PortTrace) (sent : List Departure) (left : List ℕ) → IsPortInput input
    → trace.bit ≡ input.end → HasReached input trace.bit trace → port_of input.arrivals sent trace ≡ port_at input trace.bit
    → left ≡ map (λ x. x.frame) (pending trace.heads 0 input.arrivals)
    → record { sent = sent; left = left } ≡ departures_of input
departures_found input trace sent left valid end reached port is = grind (arith, take_all, all_come)

pub port_at_start : (input : PortInput) → fresh_port input ≡ port_at input 0
unfolding port_at
port_at_start input = refl
