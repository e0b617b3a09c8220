-- The longest wait is that of one frame, which heads class B's queue all along.
use Rattle.std.proofs.Common.{◌≡◌, ℕ, zero, suc, ◌+◌, ◌-◌, ◌<◌, ◌≤◌, ◌⊎◌, true, false, Some, sym, ◌∙◌, ap, subst, inl, inr, arith}
use Rattle.std.specs.Prelude.{All}
use Rattle.std.proofs.lemmas.Bool.{cases_Bool, cases_eq, true≢false}
use Rattle.credit_shaper.specs.declared.{shaper.Traffic.Traffic, shaper.Traffic.TheVariants.B, port.Arrival.Arrival, port.Departure.Departure, port.PortInput.PortInput}
use Rattle.credit_shaper.specs.{Credit.does_send, Port.IsPortInput, Trace.departure_at, Departures.sent_of, Departures.DepartsAt, Steps.head_at, Steps.Starts}
use Rattle.credit_shaper.proofs.StepLemmas.{waits_head}
use Rattle.class_b_bound.specs.{is_kept_waiting, HasWait, IsLongestWait, IsWaitOf, IsWorstWait, worst_wait_of}
use Rattle.class_b_bound.proofs.BeginLemmas.{kept_of}

-- what is known of the heads of queues and of starts
pub record HeadLaws : Type 0 where
  pub stays : (input : PortInput) (traffic : Traffic) (x : Arrival) (t : ℕ) → IsPortInput input → head_at input traffic t ≡ Some x
      → Starts input traffic (suc t) ⊎ (head_at input traffic (suc t) ≡ Some x)
  pub starts : (input : PortInput) (traffic : Traffic) (x : Arrival) (t : ℕ) → head_at input traffic t ≡ Some x → Starts input traffic (suc t)
      → suc t < input.end → DepartsAt input x (suc t)
  pub in_time : (input : PortInput) → All (λ d. d.start < input.end) (sent_of input)
  pub ends : (input : PortInput) (t : ℕ) → IsPortInput input → is_kept_waiting input t ≡ true → is_kept_waiting input (suc t) ≡ false
      → Starts input B (suc t)

-- a frame that departs starts before the end
starts_in_time : (input : PortInput) (x : Arrival) (t : ℕ) → All (λ d. d.start < input.end) (sent_of input) → DepartsAt input x t → t < input.end
starts_in_time input x t all departs = grind arith

-- so a frame's wait is a wait
wait_of_frame : (laws : HeadLaws) (input : PortInput) (x : Arrival) (from bits : ℕ) → IsWaitOf input x from bits → HasWait input bits
wait_of_frame laws input x from bits wait =
    record {
      from = from;
      in_time = elim wait.last [
        | inl departs ↦ let before : from + bits < input.end = starts_in_time input x (from + bits) (laws.in_time input) departs in omega (arith, before)
        | inr ends ↦ omega (arith, ends)
      ];
      each = λ t low high. (wait.each t low high).1;
    }

-- a bit time more of the wait has the same frame
next_kept : (laws : HeadLaws) (input : PortInput) (x : Arrival) (t : ℕ) → IsPortInput input → head_at input B t ≡ Some x
    → is_kept_waiting input (suc t) ≡ true → head_at input B (suc t) ≡ Some x
next_kept laws input x t valid head next =
    elim (laws.stays input B x t valid head) [
      | inl start ↦ absurd (true≢false (sym (ap (does_send B) start.line) ∙ (kept_of input (suc t) next).line))
      | inr stays ↦ stays
    ]

-- and so does each of its bit times
each_kept : (laws : HeadLaws) (input : PortInput) (x : Arrival) (from n : ℕ) → IsPortInput input → head_at input B from ≡ Some x
    → ((t : ℕ) → from ≤ t → t ≤ from + n → is_kept_waiting input t ≡ true) → head_at input B (from + n) ≡ Some x
each_kept laws input x from zero valid head each = subst (λ (k : ℕ). head_at input B k ≡ Some x) (omega arith) head
each_kept laws input x from (suc n) valid head each =
    let at : suc (from + n) ≡ from + suc n = omega arith in
    let before : head_at input B (from + n) ≡ Some x = each_kept laws input x from n valid head (λ t low high. each t low (omega (arith, high))) in
    subst (λ (k : ℕ). head_at input B k ≡ Some x) at (next_kept laws input x (from + n) valid before (each (suc (from + n)) (omega arith) (omega arith)))

-- a longest wait isn't a bit time longer at its front
front_ends : (input : PortInput) (from bits : ℕ) → from + bits ≤ input.end → ((t : ℕ) → from ≤ t → t < from + bits → is_kept_waiting input t ≡ true)
    → ((other : ℕ) → HasWait input other → other ≤ bits) → (t : ℕ) → suc t ≡ from → is_kept_waiting input t ≡ true → ⊥
front_ends input from bits short each most t at kept =
    let more : suc bits ≤ bits = most (suc bits) (record {
      from = t;
      in_time = omega (arith, at, short);
      each = λ u low high. elim (cases_eq u t) [
        | inl same ↦ subst (λ (k : ℕ). is_kept_waiting input k ≡ true) (sym same) kept
        | inr ne ↦ each u (omega (arith, low, ne, at)) (omega (arith, high, at))
      ];
    }) in
    absurd (omega (arith, more))

-- nor at its end
end_ends : (input : PortInput) (from bits : ℕ) → from + bits < input.end → ((t : ℕ) → from ≤ t → t < from + bits → is_kept_waiting input t ≡ true)
    → ((other : ℕ) → HasWait input other → other ≤ bits) → is_kept_waiting input (from + bits) ≡ true → ⊥
end_ends input from bits short each most kept =
    let more : suc bits ≤ bits = most (suc bits) (record {
      from = from;
      in_time = omega (arith, short);
      each = λ u low high. elim (cases_eq u (from + bits)) [
        | inl same ↦ subst (λ (k : ℕ). is_kept_waiting input k ≡ true) (sym same) kept
        | inr ne ↦ each u low (omega (arith, high, ne))
      ];
    }) in
    absurd (omega (arith, more))

-- it ends with the frame's start or with the input
last_of : (laws : HeadLaws) (input : PortInput) (x : Arrival) (from n : ℕ) → IsPortInput input → from + suc n ≤ input.end
    → head_at input B (from + n) ≡ Some x → is_kept_waiting input (from + n) ≡ true → (from + suc n < input.end → is_kept_waiting input (from + suc n) ≡ true → ⊥)
    → DepartsAt input x (from + suc n) ⊎ (from + suc n ≡ input.end)
last_of laws input x from n valid short head kept over =
    let at : suc (from + n) ≡ from + suc n = omega arith in
    elim (cases_eq (from + suc n) input.end) [
      | inl ends ↦ inr ends
      | inr ne ↦ elim (cases_Bool (is_kept_waiting input (from + suc n))) [
        | inl more ↦ absurd (over (omega (arith, short, ne)) more)
        | inr none ↦
            let start : Starts input B (suc (from + n)) =
            laws.ends input (from + n) valid kept (subst (λ (k : ℕ). is_kept_waiting input k ≡ false) (sym at) none) in
            inl (subst (λ (k : ℕ). DepartsAt input x k) at (laws.starts input B x (from + n) head start (omega (arith, short, ne))))
      ]
    ]

frame_of_wait : (laws : HeadLaws) (input : PortInput) (bits : ℕ) → IsPortInput input → IsWorstWait input bits → 0 < bits
    → (x : Arrival) × (from : ℕ) × IsWaitOf input x from bits
frame_of_wait laws input zero valid worst some = absurd (omega (arith, some))
frame_of_wait laws input (suc n) valid worst some =
    let wait : HasWait input (suc n) = worst.there in
    let from : ℕ = wait.from in
    let head = waits_head (head_at input B from) (kept_of input from (wait.each from (omega arith) (omega arith))).waits in
    let heads : (t : ℕ) → from ≤ t → t < from + suc n → head_at input B t ≡ Some head.0 = λ t low high.
    subst (λ (k : ℕ). head_at input B k ≡ Some head.0) (omega (arith, low))
    (each_kept laws input head.0 from (t - from) valid head.1 (λ u up down. wait.each u up (omega (arith, down, low, high)))) in (
      head.0,
      from,
      record {
        each = λ t low high. (heads t low high, wait.each t low high);
        first = λ t at kept. front_ends input from (suc n) wait.in_time wait.each worst.most t at kept.1;
        last = last_of laws input head.0 from n valid wait.in_time (heads (from + n) (omega arith) (omega arith)) (wait.each (from + n) (omega arith) (omega arith))
            (λ short more. end_ends input from (suc n) short wait.each worst.most more);
      },
    )

pub longest_is : (laws : HeadLaws) → ((input : PortInput) → IsWorstWait input (worst_wait_of input)) → (input : PortInput) → IsPortInput input
    → IsLongestWait input (worst_wait_of input)
longest_is laws worst input valid =
    record {
      most = λ x from other wait. (worst input).most other (wait_of_frame laws input x from other wait);
      there = frame_of_wait laws input (worst_wait_of input) valid (worst input);
    }
