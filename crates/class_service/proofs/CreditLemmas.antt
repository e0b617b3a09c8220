-- What a class's credit is over a window: what its slope gives and what its frames take.
use Rattle.std.proofs.Common.{◌≡◌, ℕ, zero, suc, ◌+◌, ◌-◌, ◌*◌, ◌≤◌, ◌⊎◌, inl, inr, Bool, true, false, cond, [], ◌∷◌, ◌++◌, refl, sym, ◌∙◌, ap, subst, arith}
use Rattle.std.specs.Prelude.{◌||◌, sum_by, ℤ, pos, ◌+ℤ◌, ◌-ℤ◌, ◌≤ℤ◌, int_lt}
use Rattle.std.specs.{Int.int_min, List.range_with_len}
use Rattle.std.proofs.lemmas.{Bool.cases_Bool, Bool.true≢false, Bool.false≢true, Int.ints, List.Sums.sum_by_push}
use Rattle.srp_base.proofs.{Arithmetic.mul_add, Lists.range-push}
use Rattle.srp_base.specs.Bandwidth.{bits_of}
use Rattle.credit_shaper.specs.declared.{shaper.Traffic.Traffic, port.PortInput.PortInput}
use Rattle.credit_shaper.specs.{Credit.credit_after, Bounds.is_on_line, Bounds.bit_times, Steps.is_waiting}
use Rattle.credit_shaper.proofs.WindowLemmas.{spent_by}
use Rattle.class_service.specs.{IsClass, credit_at, slope_at, is_busy, IsBusy, bits_in, area_in, IsCreditKept, IsServed, TakesNoMore, IsFresh, LosesNone, CreditLaws}

-- ---- sums over bit times grow at their end

-- up to the next bit time
pub times_more : (from t : ℕ) → from ≤ t → bit_times from (suc t) ≡ bit_times from t ++ t ∷ []
times_more from t up =
    let long : suc t - from ≡ t - from + 1 = omega (arith, up) in
    let at : from + (t - from) ≡ t = omega (arith, up) in
    ap (range_with_len from) long ∙ (range-push from (t - from) ∙ ap (λ k. range_with_len from (t - from) ++ k ∷ []) at)

pub sum_more : (f : ℕ → ℕ) (from t : ℕ) → from ≤ t → sum_by f (bit_times from (suc t)) ≡ sum_by f (bit_times from t) + f t
sum_more f from t up = ap (sum_by f) (times_more from t up) ∙ sum_by_push f (bit_times from t) t

pub sum_none : (f : ℕ → ℕ) (t : ℕ) → sum_by f (bit_times t t) ≡ 0
sum_none f t = let none : t - t ≡ 0 = omega arith in ap (λ n. sum_by f (range_with_len t n)) none

-- 1 for a bit time in which a frame of the traffic is on the line
abbrev pub bit_of : PortInput → Traffic → ℕ → ℕ
bit_of input traffic t = cond (is_on_line input traffic t) 1 0

pub bits_more : (input : PortInput) (traffic : Traffic) (from t : ℕ) → from ≤ t
    → bits_in input traffic from (suc t) ≡ bits_in input traffic from t + bit_of input traffic t
bits_more input traffic from t up = sum_more (bit_of input traffic) from t up

-- ---- one bit time

-- a credit that isn't set back
kept_by : (rate slope : ℕ) (sends waits : Bool) (c : ℤ) → (sends || waits) ≡ true
    → credit_after rate slope sends waits c ≡ c +ℤ pos slope -ℤ pos (rate * cond sends 1 0)
kept_by rate slope true waits c busy = omega (arith, ints)
kept_by rate slope false true c busy = omega (arith, ints)
kept_by rate slope false false c busy = absurd (false≢true busy)

-- a class that isn't busy: its credit isn't set back, or is 0
idle_by : (rate slope : ℕ) (sends waits : Bool) (c : ℤ) → (sends || waits) ≡ false
    → (credit_after rate slope sends waits c ≡ c +ℤ pos slope -ℤ pos (rate * cond sends 1 0)) ⊎ (credit_after rate slope sends waits c ≡ pos 0)
idle_by rate slope true waits c idle = absurd (true≢false idle)
idle_by rate slope false true c idle = absurd (true≢false idle)
idle_by rate slope false false c idle = elim (least_is (pos 0) (c +ℤ pos slope)) [ inl e ↦ inl (omega (arith, ints, e)) | inr e ↦ inr e ]
  where
    least_is : (x y : ℤ) → (int_min x y ≡ y) ⊎ (int_min x y ≡ x)
    least_is x y = elim (int_lt y x) as (λ b. (cond b y x ≡ y) ⊎ (cond b y x ≡ x)) [ true ↦ inl refl | false ↦ inr refl ]

-- ---- a window with one bit time more

kept_more : (x y z : ℤ) (slope area area' part part' one : ℕ) → y ≡ x +ℤ pos area -ℤ pos part → z ≡ y +ℤ pos slope -ℤ pos one
    → area' ≡ area + slope → part' ≡ part + one → z ≡ x +ℤ pos area' -ℤ pos part'
kept_more x y z slope area area' part part' one before step grown taken = omega (arith, ints, before, step, grown, taken)

spent_more : (x y z : ℤ) (slope area area' part part' one : ℕ) → (y +ℤ pos part) ≤ℤ (x +ℤ pos area) → (z +ℤ pos one) ≤ℤ (y +ℤ pos slope)
    → area' ≡ area + slope → part' ≡ part + one → (z +ℤ pos part') ≤ℤ (x +ℤ pos area')
spent_more x y z slope area area' part part' one before step grown taken = omega (arith, ints, before, step, grown, taken)

part_more : (input : PortInput) (traffic : Traffic) (from t : ℕ) → from ≤ t
    → bits_of input.rate * bits_in input traffic from (suc t)
    ≡ bits_of input.rate * bits_in input traffic from t + bits_of input.rate * bit_of input traffic t
part_more input traffic from t up =
    ap (λ n. bits_of input.rate * n) (bits_more input traffic from t up)
    ∙ mul_add (bits_of input.rate) (bits_in input traffic from t) (bit_of input traffic t)

-- what a bit time keeps is kept over the window that it ends
kept_next : (input : PortInput) (traffic : Traffic) (from t : ℕ) → from ≤ t
    → credit_at input traffic (suc t) ≡ credit_at input traffic t +ℤ pos (slope_at input traffic t) -ℤ pos (bits_of input.rate * bit_of input traffic t)
    → IsCreditKept input traffic from t → IsCreditKept input traffic from (suc t)
kept_next input traffic from t up step before =
    kept_more (credit_at input traffic from) (credit_at input traffic t) (credit_at input traffic (suc t))
    (slope_at input traffic t) (area_in input traffic from t) (area_in input traffic from (suc t))
    (bits_of input.rate * bits_in input traffic from t) (bits_of input.rate * bits_in input traffic from (suc t)) (bits_of input.rate * bit_of input traffic t)
    before step (sum_more (slope_at input traffic) from t up) (part_more input traffic from t up)

kept_none : (input : PortInput) (traffic : Traffic) (t : ℕ) → IsCreditKept input traffic t t
kept_none input traffic t =
    let area : area_in input traffic t t ≡ 0 = sum_none (slope_at input traffic) t in
    let bits : bits_in input traffic t t ≡ 0 = sum_none (bit_of input traffic) t in
    let part : bits_of input.rate * bits_in input traffic t t ≡ 0 = ap (λ n. bits_of input.rate * n) bits ∙ omega arith in
    omega (arith, ints, area, part)

-- while a class is busy its credit is kept
step_kept : (laws : CreditLaws) (input : PortInput) (traffic : Traffic) (t : ℕ) → IsClass traffic → is_busy input traffic t ≡ true
    → credit_at input traffic (suc t) ≡ credit_at input traffic t +ℤ pos (slope_at input traffic t) -ℤ pos (bits_of input.rate * bit_of input traffic t)
step_kept laws input traffic t class busy =
    laws.step input traffic t class ∙ kept_by (bits_of input.rate) (slope_at input traffic t) (is_on_line input traffic t) (is_waiting input traffic t) (credit_at input traffic t) busy

kept_on : (laws : CreditLaws) (input : PortInput) (traffic : Traffic) (from t n : ℕ) → IsClass traffic → from ≤ t → IsBusy input traffic t (t + n)
    → IsCreditKept input traffic from t → IsCreditKept input traffic from (t + n)
kept_on laws input traffic from t zero class up busy kept = subst (IsCreditKept input traffic from) (omega arith) kept
kept_on laws input traffic from t (suc n) class up busy kept =
    let before : IsCreditKept input traffic from (t + n) = kept_on laws input traffic from t n class up (λ k low high. busy k low (omega (arith, high))) kept in
    subst (IsCreditKept input traffic from) (omega arith)
    (kept_next input traffic from (t + n) (omega (arith, up)) (step_kept laws input traffic (t + n) class (busy (t + n) (omega arith) (omega arith))) before)

pub busy_kept : (laws : CreditLaws) (input : PortInput) (traffic : Traffic) (a b : ℕ) → IsClass traffic → a ≤ b → IsBusy input traffic a b → IsCreditKept input traffic a b
busy_kept laws input traffic a b class up busy =
    let at : a + (b - a) ≡ b = omega (arith, up) in
    subst (IsCreditKept input traffic a) at
    (kept_on laws input traffic a a (b - a) class (omega arith) (subst (IsBusy input traffic a) (sym at) busy) (kept_none input traffic a))

served_by : (area part : ℕ) (lo hi x y : ℤ) → y ≡ x +ℤ pos area -ℤ pos part → lo ≤ℤ x → y ≤ℤ hi → pos area ≤ℤ (pos part +ℤ hi -ℤ lo)
served_by area part lo hi x y kept low high = omega (arith, ints, kept, low, high)

pub busy_served : (laws : CreditLaws) (input : PortInput) (traffic : Traffic) (lo hi : ℤ) (a b : ℕ) → IsClass traffic → a ≤ b → IsBusy input traffic a b
    → lo ≤ℤ credit_at input traffic a → credit_at input traffic b ≤ℤ hi → IsServed input traffic lo hi a b
busy_served laws input traffic lo hi a b class up busy low high =
    served_by (area_in input traffic a b) (bits_of input.rate * bits_in input traffic a b) lo hi (credit_at input traffic a) (credit_at input traffic b)
    (busy_kept laws input traffic a b class up busy) low high

-- ---- a class takes no more

spent_over : (laws : CreditLaws) (input : PortInput) (traffic : Traffic) (from n : ℕ) → IsClass traffic
    → (credit_at input traffic (from + n) +ℤ pos (bits_of input.rate * bits_in input traffic from (from + n)))
    ≤ℤ (credit_at input traffic from +ℤ pos (area_in input traffic from (from + n)))
spent_over laws input traffic from zero class =
    let same : credit_at input traffic (from + 0) ≡ credit_at input traffic from = ap (credit_at input traffic) (omega arith) in
    let none : bits_in input traffic from (from + 0) ≡ 0 = ap (bits_in input traffic from) (omega arith) ∙ sum_none (bit_of input traffic) from in
    let part : bits_of input.rate * bits_in input traffic from (from + 0) ≡ 0 = ap (λ n. bits_of input.rate * n) none ∙ omega arith in
    omega (arith, ints, same, part)
spent_over laws input traffic from (suc n) class =
    let t : ℕ = from + n in
    let up : from ≤ t = omega arith in
    subst (λ (k : ℕ). (credit_at input traffic k +ℤ pos (bits_of input.rate * bits_in input traffic from k)) ≤ℤ (credit_at input traffic from +ℤ pos (area_in input traffic from k)))
    (omega arith)
    (spent_more (credit_at input traffic from) (credit_at input traffic t) (credit_at input traffic (suc t))
    (slope_at input traffic t) (area_in input traffic from t) (area_in input traffic from (suc t))
    (bits_of input.rate * bits_in input traffic from t) (bits_of input.rate * bits_in input traffic from (suc t)) (bits_of input.rate * bit_of input traffic t)
    (spent_over laws input traffic from n class)
    (subst (λ (c : ℤ). (c +ℤ pos (bits_of input.rate * bit_of input traffic t)) ≤ℤ (credit_at input traffic t +ℤ pos (slope_at input traffic t)))
    (sym (laws.step input traffic t class))
    (spent_by (bits_of input.rate) (slope_at input traffic t) (is_on_line input traffic t) (is_waiting input traffic t) (credit_at input traffic t)))
    (sum_more (slope_at input traffic) from t up) (part_more input traffic from t up))

taken_by : (area part : ℕ) (lo hi x y : ℤ) → (y +ℤ pos part) ≤ℤ (x +ℤ pos area) → x ≤ℤ hi → lo ≤ℤ y → pos part ≤ℤ (pos area +ℤ hi -ℤ lo)
taken_by area part lo hi x y spent high low = omega (arith, ints, spent, high, low)

pub takes_no_more : (laws : CreditLaws) (input : PortInput) (traffic : Traffic) (lo hi : ℤ) (a b : ℕ) → IsClass traffic → a ≤ b
    → credit_at input traffic a ≤ℤ hi → lo ≤ℤ credit_at input traffic b → TakesNoMore input traffic lo hi a b
takes_no_more laws input traffic lo hi a b class up high low =
    let at : a + (b - a) ≡ b = omega (arith, up) in
    taken_by (area_in input traffic a b) (bits_of input.rate * bits_in input traffic a b) lo hi (credit_at input traffic a) (credit_at input traffic b)
    (subst (λ (k : ℕ). (credit_at input traffic k +ℤ pos (bits_of input.rate * bits_in input traffic a k)) ≤ℤ (credit_at input traffic a +ℤ pos (area_in input traffic a k)))
    at (spent_over laws input traffic a (b - a) class)) high low

-- ---- no credit is lost since some fresh bit time

pub fresh_first : (laws : CreditLaws) (input : PortInput) (traffic : Traffic) → IsClass traffic → IsFresh input traffic 0
fresh_first laws input traffic class = record { credit = laws.first input traffic class; idle = λ k e. absurd (omega (arith, e)) }

none_lost : (input : PortInput) (traffic : Traffic) (t : ℕ) → IsFresh input traffic t → LosesNone input traffic t t
none_lost input traffic t fresh =
    record {
      fresh = fresh;
      kept = λ k low high. let same : t ≡ k = omega (arith, low, high) in subst (IsCreditKept input traffic t) same (kept_none input traffic t);
    }

-- one bit time more
loses_more : (input : PortInput) (traffic : Traffic) (s t : ℕ) → s ≤ t → LosesNone input traffic s t → IsCreditKept input traffic s (suc t) → LosesNone input traffic s (suc t)
loses_more input traffic s t up none next =
    record { fresh = none.fresh; kept = λ k low high. upto k low (split k high) }
  where
    split : (k : ℕ) → k ≤ suc t → (k ≤ t) ⊎ (k ≡ suc t)
    split k high = grind arith

    upto : (k : ℕ) → s ≤ k → (k ≤ t) ⊎ (k ≡ suc t) → IsCreditKept input traffic s k
    upto k low (inl l) = none.kept k low l
    upto k low (inr e) = subst (IsCreditKept input traffic s) (sym e) next

-- since some bit time up to this one
record Since (input : PortInput) (traffic : Traffic) (z t : ℕ) : Type 0 where
  at : ℕ
  after : z ≤ at
  upto : at ≤ t
  none : LosesNone input traffic at t

since_next : (laws : CreditLaws) (input : PortInput) (traffic : Traffic) (z t : ℕ) → IsClass traffic → Since input traffic z t → Since input traffic z (suc t)
since_next laws input traffic z t class s =
    elim (cases_Bool (is_busy input traffic t)) [
      | inl busy ↦ on (step_kept laws input traffic t class busy)
      | inr idle ↦ elim (idle_by (bits_of input.rate) (slope_at input traffic t) (is_on_line input traffic t) (is_waiting input traffic t) (credit_at input traffic t) idle) [
        | inl kept ↦ on (laws.step input traffic t class ∙ kept)
        | inr none ↦
            record {
              at = suc t;
              after = omega (arith, s.after, s.upto);
              upto = omega arith;
              none = none_lost input traffic (suc t) (record {
                credit = laws.step input traffic t class ∙ none;
                idle = λ k e. let same : t ≡ k = omega (arith, e) in subst (λ (n : ℕ). is_busy input traffic n ≡ false) same idle;
              });
            }
      ]
    ]
  where
    on : credit_at input traffic (suc t) ≡ credit_at input traffic t +ℤ pos (slope_at input traffic t) -ℤ pos (bits_of input.rate * bit_of input traffic t) → Since input traffic z (suc t)
    on step =
        record {
          at = s.at;
          after = s.after;
          upto = omega (arith, s.upto);
          none = loses_more input traffic s.at t s.upto s.none (kept_next input traffic s.at t s.upto step (s.none.kept t s.upto (omega arith)));
        }

since_over : (laws : CreditLaws) (input : PortInput) (traffic : Traffic) (z n : ℕ) → IsClass traffic → IsFresh input traffic z → Since input traffic z (z + n)
since_over laws input traffic z zero class fresh =
    record { at = z; after = omega arith; upto = omega arith; none = subst (LosesNone input traffic z) (omega arith) (none_lost input traffic z fresh) }
since_over laws input traffic z (suc n) class fresh =
    subst (Since input traffic z) (omega arith) (since_next laws input traffic z (z + n) class (since_over laws input traffic z n class fresh))

pub some_since : (laws : CreditLaws) (input : PortInput) (traffic : Traffic) (z t : ℕ) → IsClass traffic → IsFresh input traffic z → z ≤ t
    → (s : ℕ) × (z ≤ s) × (s ≤ t) × LosesNone input traffic s t
some_since laws input traffic z t class fresh up =
    let at : z + (t - z) ≡ t = omega (arith, up) in
    let s : Since input traffic z t = subst (Since input traffic z) at (since_over laws input traffic z (t - z) class fresh) in
    (s.at, s.after, s.upto, s.none)

pub lost_on : (laws : CreditLaws) (input : PortInput) (traffic : Traffic) (s t u : ℕ) → IsClass traffic → s ≤ t → LosesNone input traffic s t → t ≤ u
    → IsBusy input traffic t u → LosesNone input traffic s u
lost_on laws input traffic s t u class up none more busy =
    record { fresh = none.fresh; kept = λ k low high. upto k low high (before k) }
  where
    before : (k : ℕ) → (k ≤ t) ⊎ (t ≤ k)
    before k = grind arith

    upto : (k : ℕ) → s ≤ k → k ≤ u → (k ≤ t) ⊎ (t ≤ k) → IsCreditKept input traffic s k
    upto k low high (inl l) = none.kept k low l
    upto k low high (inr l) =
        let at : t + (k - t) ≡ k = omega (arith, l) in
        subst (IsCreditKept input traffic s) at
        (kept_on laws input traffic s t (k - t) class up (λ j from to. busy j from (omega (arith, to, at, high))) (none.kept t up (omega arith)))
