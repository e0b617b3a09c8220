-- A wait ends with the start of a class B frame, or with the end; and each bit time's count is a wait.
use Rattle.std.proofs.Common.{◌≡◌, ℕ, zero, suc, ◌+◌, ◌-◌, ◌<◌, ◌≤◌, ◌⊎◌, Bool, true, false, refl, sym, ◌∙◌, ap, subst, inl, inr, arith}
use Rattle.std.specs.Prelude.{ℤ, pos, ◌≤ℤ◌, int_le, not, ◌&&◌}
use Rattle.std.proofs.lemmas.{Bool.cases_Bool, Bool.cases_eq, Bool.cases_lt, Bool.true≢false, Bool.false≢true, Int.ints}
use Rattle.srp_base.proofs.Arithmetic.{above_is as zero_at_least}
use Rattle.srp_base.specs.Bandwidth.{bits_of}
use Rattle.credit_shaper.specs.declared.{shaper.Traffic.Traffic, port.PortInput.PortInput}
use Rattle.credit_shaper.specs.declared.shaper.Traffic.TheVariants.{A, B, Other}
use Rattle.credit_shaper.specs.{Credit.credit_after, Credit.does_send, Port.IsPortInput, Bounds.credit_b_at, Bounds.slope_b_at, Bounds.is_on_line, Steps.is_waiting, Steps.Starts}
use Rattle.class_b_bound.specs.{BitLaws, is_kept_waiting, HasWait, IsWorstWait, waited, most_waited, worst_wait_of}
use Rattle.class_b_bound.proofs.{BeginLemmas.IsKept, BeginLemmas.kept_of, BeginLemmas.waited-yes, BeginLemmas.waited-no, BoundLemmas.run_waited, BeginLemmas.waited-first}

-- class B waits with credit, so it is kept waiting unless a frame of it is on the line
on_line_if : (waits line : Bool) (c : ℤ) → waits ≡ true → pos 0 ≤ℤ c → (waits && (int_le (pos 0) c && not line)) ≡ false → line ≡ true
on_line_if waits line c h1 h2 h3 = grind (arith, true≢false, zero_at_least, false≢true)

kept_unless : (input : PortInput) (t : ℕ) → is_waiting input B t ≡ true → pos 0 ≤ℤ credit_b_at input t → is_kept_waiting input t ≡ false
    → is_on_line input B t ≡ true
kept_unless input t waits credit none = on_line_if (is_waiting input B t) (is_on_line input B t) (credit_b_at input t) waits credit none

-- a start of another traffic shows no class B frame on the line
start_b : (input : PortInput) (t : ℕ) (traffic : Traffic) → is_on_line input B t ≡ true → Starts input traffic t → Starts input B t
start_b input t A line s = absurd (false≢true (sym (ap (does_send B) s.line) ∙ line))
start_b input t B line s = s
start_b input t Other line s = absurd (false≢true (sym (ap (does_send B) s.line) ∙ line))

credit_kept : (rate slope : ℕ) (sends waits : Bool) (c d : ℤ) → d ≡ credit_after rate slope sends waits c → sends ≡ false → waits ≡ true → pos 0 ≤ℤ c
    → pos 0 ≤ℤ d
credit_kept rate slope true waits c d e line w up = absurd (true≢false line)
credit_kept rate slope false true c d e line w up = omega (arith, ints, e, up)
credit_kept rate slope false false c d e line w up = absurd (false≢true w)

pub ends_with_start : (laws : BitLaws)
    → ((input : PortInput) (traffic : Traffic) (t : ℕ) → IsPortInput input → is_waiting input traffic t ≡ true → Starts input traffic (suc t) ⊎ (is_waiting input traffic (suc t) ≡ true))
    → (input : PortInput) (t : ℕ) → IsPortInput input → is_kept_waiting input t ≡ true → is_kept_waiting input (suc t) ≡ false → Starts input B (suc t)
ends_with_start laws goes_on input t valid here none =
    let kept : IsKept input t = kept_of input t here in
    let credit : pos 0 ≤ℤ credit_b_at input (suc t) =
    credit_kept (bits_of input.rate) (slope_b_at input t) (is_on_line input B t) (is_waiting input B t) (credit_b_at input t) (credit_b_at input (suc t))
    (laws.class_b input t) kept.line kept.waits kept.credit in
    elim (goes_on input B t valid kept.waits) [
      | inl start ↦ start
      | inr waits ↦
          let line : is_on_line input B (suc t) ≡ true = kept_unless input (suc t) waits credit none in
          elim (laws.three input (suc t) valid) [
            | inl on ↦ absurd (true≢false (sym line ∙ (on.line B ∙ (laws.line_next input B t ∙ kept.line))))
            | inr (inl start) ↦ start_b input (suc t) start.0 line start.1
            | inr (inr rest) ↦ absurd (false≢true (sym (ap (does_send B) rest.line) ∙ line))
          ]
    ]

-- ---- the count of each bit time

pub waited_most : (input : PortInput) (t : ℕ) → waited input t ≤ t
waited_most input zero = omega (arith, waited-first input)
waited_most input (suc t) = grind (arith, waited_most input t, cases_Bool, waited-yes, waited-no)

-- the bit times that it counts
waited_run : (input : PortInput) (t u : ℕ) → t ≤ u + waited input t → u < t → is_kept_waiting input u ≡ true
waited_run input zero u low high = absurd (omega (arith, high))
waited_run input (suc t) u low high =
    elim (cases_Bool (is_kept_waiting input t)) [
      | inl e ↦
          let more = waited-yes input t e in
          elim (cases_eq u t) [
            | inl same ↦ subst (λ (k : ℕ). is_kept_waiting input k ≡ true) (sym same) e
            | inr ne ↦ waited_run input t u (omega (arith, low, more)) (omega (arith, high, ne))
          ]
      | inr e ↦ let none = waited-no input t e in absurd (omega (arith, low, none, high))
    ]

-- so it is a wait
pub wait_of_count : (input : PortInput) (t : ℕ) → t ≤ input.end → HasWait input (waited input t)
wait_of_count input t short =
    let most : waited input t ≤ t = waited_most input t in
    record {
      from = t - waited input t;
      in_time = omega (arith, most, short);
      each = λ u low high. waited_run input t u (omega (arith, low)) (omega (arith, high, most));
    }

-- ---- the most of the counts is the longest wait

some_count : (input : PortInput) (t : ℕ) → (s : ℕ) × (s ≤ t) × (waited input s ≡ most_waited input t)
unfolding most_waited
some_count input zero = (0, omega arith, waited-first input)
some_count input (suc t) =
    let before = some_count input t in
    elim (cases_lt (waited input (suc t)) (most_waited input t)) [
      | inl l ↦ (before.0, omega (arith, before.1), omega (arith, before.2, l))
      | inr l ↦ (suc t, omega arith, omega (arith, l))
    ]

each_count : (input : PortInput) (t s : ℕ) → s ≤ t → waited input s ≤ most_waited input t
unfolding most_waited
each_count input zero s l =
    let at : s ≡ 0 = omega (arith, l) in
    let none : waited input s ≡ 0 = ap (waited input) at ∙ waited-first input in
    omega (arith, none)
each_count input (suc t) s l =
    elim (cases_eq s (suc t)) [
      | inl e ↦ let same : waited input s ≡ waited input (suc t) = ap (waited input) e in omega (arith, same)
      | inr ne ↦ let before : waited input s ≤ most_waited input t = each_count input t s (omega (arith, l, ne)) in omega (arith, before)
    ]

pub worst_some : (input : PortInput) → IsWorstWait input (worst_wait_of input)
worst_some input =
    let some = some_count input input.end in
    record {
      there = subst (HasWait input) some.2 (wait_of_count input some.0 some.1);
      most = λ other wait.
          let least : other ≤ waited input (wait.from + other) = run_waited input wait.from other wait.each in
          let most : waited input (wait.from + other) ≤ worst_wait_of input = each_count input input.end (wait.from + other) wait.in_time in
          omega (arith, least, most);
    }
