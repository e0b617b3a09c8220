-- What the wait of a frame is owed to.
use Rattle.std.proofs.Common.{◌≡◌, ℕ, zero, suc, ◌+◌, ◌-◌, ◌*◌, ◌<◌, ◌≤◌, inl, inr, Bool, false, List, ◌∷◌, ◌++◌, refl, sym, ◌∙◌, ap, subst, arith}
use Rattle.std.specs.Prelude.{All, ℤ, pos, ◌+ℤ◌, ◌-ℤ◌, ◌≤ℤ◌}
use Rattle.std.proofs.Math.Nat.{mul-le-mul_left}
use Rattle.std.proofs.lemmas.{Bool.cases_Bool, Bool.or_right, Bool.or_from, Bool.true≢false, List.Elements.All-contains, List.Elements.Contains-append_right, Int.ints, Int.clamps}
use Rattle.srp_base.specs.Bandwidth.{bits_of}
use Rattle.credit_shaper.specs.declared.{shaper.Traffic.Traffic, port.Arrival.Arrival, port.PortInput.PortInput}
use Rattle.credit_shaper.specs.declared.shaper.Traffic.TheVariants.{A, B, Other}
use Rattle.credit_shaper.specs.{Credit.credit_after, Port.IsPortInput, Bounds.is_on_line, Steps.is_waiting, Steps.bits_left}
use Rattle.class_service.specs.{IsClass, credit_at, slope_at, is_busy, IsBusy, bits_in, area_in, IsFresh, LosesNone, idle_of, bits_among, arrivals_from, HasNoneBefore, HasPlace, HasNotStarted, StartsAt, HasOneSlope, IsWaitOwed, StartsInTime, CreditLaws, LineLaws, OrderLaws}
use Rattle.class_service.proofs.{CreditLemmas.sum_more, CreditLemmas.sum_none, CreditLemmas.some_since, CreditLemmas.lost_on, PortLemmas.none_waiting, PortLemmas.none_starts, RangeLemmas.Continues, RangeLemmas.on_line, QueueLemmas.waits_until, QueueLemmas.bits_in_front, QueueLemmas.starts_or_left, HeightLemmas.HasHighA, HeightLemmas.rises_no_higher}

-- ---- one slope

-- the area of one slope
one_area : (input : PortInput) (traffic : Traffic) (slope from n : ℕ) → ((t : ℕ) → from ≤ t → t < from + n → slope_at input traffic t ≡ slope)
    → area_in input traffic from (from + n) ≡ slope * n
one_area input traffic slope from zero one =
    let at : from + 0 ≡ from = omega arith in
    ap (area_in input traffic from) at ∙ (sum_none (slope_at input traffic) from ∙ omega arith)
one_area input traffic slope from (suc n) one =
    let at : from + suc n ≡ suc (from + n) = omega arith in
    let last : slope_at input traffic (from + n) ≡ slope = one (from + n) (omega arith) (omega arith) in
    let before = one_area input traffic slope from n (λ t low high. one t low (omega (arith, high))) in
    let more = sum_more (slope_at input traffic) from (from + n) (omega arith) in
    ap (area_in input traffic from) at ∙ omega (arith, before, more, last)

pub area_is : (input : PortInput) (traffic : Traffic) (slope from to : ℕ) → from ≤ to → ((t : ℕ) → from ≤ t → t < to → slope_at input traffic t ≡ slope)
    → area_in input traffic from to ≡ slope * (to - from)
area_is input traffic slope from to up one =
    let at : from + (to - from) ≡ to = omega (arith, up) in
    subst (λ (k : ℕ). area_in input traffic from k ≡ slope * (to - from)) at
    (one_area input traffic slope from (to - from) (λ t low high. one t low (omega (arith, high, at))))

-- the credit at the end of a stretch that begins fresh, with one slope
one_high : (credit : CreditLaws) (laws : LineLaws) → HasHighA → (input : PortInput) (traffic : Traffic) (slope slope_a from to : ℕ) → IsPortInput input → from ≤ to
    → credit_at input traffic from ≡ pos 0 → HasOneSlope input traffic slope slope_a from to
    → credit_at input traffic to ≤ℤ pos (idle_of (bits_of input.rate) slope_a traffic * slope)
one_high credit laws law input A slope slope_a from to valid up none one =
    let high = rises_no_higher credit laws law input A slope (bits_of input.rate) from to valid tt none
    (λ t low less. (omega (arith, one.own t low less), omega (arith, (laws.below input t valid).1))) up in
    high
one_high credit laws law input B slope slope_a from to valid up none one =
    let high = rises_no_higher credit laws law input B slope_a slope from to valid one.room none
    (λ t low less. (omega (arith, one.class_a t low less), omega (arith, one.own t low less))) up in
    turned slope (idle_of (bits_of input.rate) slope_a B) (credit_at input B to) high
  where
    turned : (m n : ℕ) (c : ℤ) → c ≤ℤ pos (m * n) → c ≤ℤ pos (n * m)
    turned m n c h = omega (arith, ints, h)
one_high credit laws law input Other slope slope_a from to valid up none one = absurd one.room

-- ---- a wait

-- what the slope gives since, the frames in front take, but for what the credit rises to
owed_by : (area part most high : ℕ) (x y : ℤ) → x ≡ pos 0 → y ≡ x +ℤ pos area -ℤ pos part → part ≤ most → y ≤ℤ pos high → area ≤ most + high
owed_by area part most high x y none kept few up = omega (arith, ints, none, kept, few, up)

-- from a later bit time on
later : (input : PortInput) (traffic : Traffic) (slope slope_a from since to : ℕ) → from ≤ since → HasOneSlope input traffic slope slope_a from to
    → HasOneSlope input traffic slope slope_a since to
later input traffic slope slope_a from since to l one =
    record {
      some = one.some;
      room = one.room;
      own = λ t low high. one.own t (omega (arith, l, low)) high;
      class_a = λ t low high. one.class_a t (omega (arith, l, low)) high;
    }

pub wait_owed : (credit : CreditLaws) (line : LineLaws) (laws : OrderLaws) → HasHighA → (input : PortInput) (front behind : List Arrival) (x : Arrival) (slope slope_a from to : ℕ)
    → IsPortInput input → HasPlace input front x behind → IsClass x.traffic → IsFresh input x.traffic from → from ≤ x.bit → HasOneSlope input x.traffic slope slope_a from to
    → x.bit ≤ to → to ≤ input.end → HasNotStarted input front x to → IsWaitOwed input front x slope slope_a from to
wait_owed credit line laws law input front behind x slope slope_a from to valid place class fresh low one high in_time few =
    let traffic : Traffic = x.traffic in
    let rate : ℕ = bits_of input.rate in
    let s = some_since credit input traffic from x.bit class fresh low in
    let since : ℕ = s.0 in
    let before : since ≤ x.bit = s.2 in
    let after : from ≤ since = s.1 in
    let busy : IsBusy input traffic x.bit to =
    λ t first last. or_right (is_on_line input traffic t) (is_waiting input traffic t) (waits_until laws input front behind x to t valid place in_time few first last) in
    let none : LosesNone input traffic since to = lost_on credit input traffic since x.bit to class before s.3 high busy in
    let up : since ≤ to = omega (arith, before, high) in
    let after_one = later input traffic slope slope_a from since to after one in
    let front_bits = bits_in_front line laws input front behind x since to valid place none.fresh.idle before high in_time few in
    let part : rate * bits_in input traffic since to ≤ rate * bits_among traffic (arrivals_from front since) = mul-le-mul_left rate front_bits in
    let area = area_is input traffic slope since to up after_one.own in
    record {
      since = since;
      after = after;
      before = before;
      idle = none.fresh.idle;
      wait = subst (λ (n : ℕ). n ≤ rate * bits_among traffic (arrivals_from front since) + idle_of rate slope_a traffic * slope) area
          (owed_by (area_in input traffic since to) (rate * bits_in input traffic since to) (rate * bits_among traffic (arrivals_from front since)) (idle_of rate slope_a traffic * slope)
          (credit_at input traffic since) (credit_at input traffic to) none.fresh.credit (none.kept to up (omega arith)) part
          (one_high credit line law input traffic slope slope_a since to valid up none.fresh.credit after_one));
    }

-- up to an earlier bit time
sooner : (input : PortInput) (traffic : Traffic) (slope slope_a from to end : ℕ) → to ≤ end → HasOneSlope input traffic slope slope_a from end
    → HasOneSlope input traffic slope slope_a from to
sooner input traffic slope slope_a from to end l one =
    record {
      some = one.some;
      room = one.room;
      own = λ t low high. one.own t low (omega (arith, l, high));
      class_a = λ t low high. one.class_a t low (omega (arith, l, high));
    }

pub in_time : (credit : CreditLaws) (line : LineLaws) (laws : OrderLaws) → HasHighA → (input : PortInput) (front behind : List Arrival) (x : Arrival) (slope slope_a from : ℕ)
    → IsPortInput input → HasPlace input front x behind → IsClass x.traffic → IsFresh input x.traffic from → from ≤ x.bit → HasOneSlope input x.traffic slope slope_a from input.end
    → StartsInTime input front x slope slope_a from
in_time credit line laws law input front behind x slope slope_a from valid place class fresh low one =
    let E : Arrival → Type 0 = λ y. y.bit < input.end in
    let before : x.bit < input.end =
    All-contains E (front ++ x ∷ behind) x (subst (All E) place valid.arrivals.in_time) (Contains-append_right front (x ∷ behind) x (0, omega arith, refl)) in
    elim (starts_or_left laws input front behind x valid place) [
      | inl starts ↦
          let t : ℕ = starts.0 in
          let start : StartsAt input front x t = starts.2 in
          inl (
            t,
            start,
            wait_owed credit line laws law input front behind x slope slope_a from t valid place class fresh low
                (sooner input x.traffic slope slope_a from t input.end (omega (arith, starts.1)) one) start.arrived (omega (arith, starts.1)) (omega (arith, start.turn)),
          )
      | inr left ↦
          inr (
            left,
            wait_owed credit line laws law input front behind x slope slope_a from input.end valid place class fresh low one (omega (arith, before)) (omega arith) left,
          )
    ]

-- ---- a class without frames

-- one that doesn't go on isn't on the line either
off_line : (line : LineLaws) (input : PortInput) (traffic : Traffic) (z t : ℕ) → IsPortInput input → HasNoneBefore traffic z input.arrivals → t < z
    → (Continues input traffic t → ⊥) → is_on_line input traffic t ≡ false
off_line line input traffic z t valid none l stops =
    elim (cases_Bool (is_on_line input traffic t)) [
      | inl on ↦ elim (on_line line input traffic t valid on) [ inl goes ↦ absurd (stops goes) | inr start ↦ absurd (none_starts input traffic z t none l start) ]
      | inr off ↦ off
    ]

-- up to the bit time before which none arrives the class isn't on the line
never_on : (line : LineLaws) (input : PortInput) (traffic : Traffic) (z t : ℕ) → IsPortInput input → HasNoneBefore traffic z input.arrivals → t < z → is_on_line input traffic t ≡ false
never_on line input traffic z zero valid none l =
    let first = line.first input in
    off_line line input traffic z 0 valid none l (λ goes. let some : 0 < bits_left input 0 = goes.some in absurd (omega (arith, some, first)))
never_on line input traffic z (suc k) valid none l =
    let before : is_on_line input traffic k ≡ false = never_on line input traffic z k valid none (omega (arith, l)) in
    off_line line input traffic z (suc k) valid none l (λ goes. absurd (true≢false (sym goes.was ∙ (line.next input traffic k ∙ before))))

-- nor busy
never_busy : (line : LineLaws) (input : PortInput) (traffic : Traffic) (z t : ℕ) → IsPortInput input → HasNoneBefore traffic z input.arrivals → t < z → is_busy input traffic t ≡ false
never_busy line input traffic z t valid none l =
    or_from (is_on_line input traffic t) (is_waiting input traffic t) (never_on line input traffic z t valid none l) (none_waiting input traffic z t none l)

stays_zero : (rate slope : ℕ) → credit_after rate slope false false (pos 0) ≡ pos 0
stays_zero rate slope = omega (arith, ints, clamps)

no_credit : (credit : CreditLaws) (line : LineLaws) (input : PortInput) (traffic : Traffic) (z t : ℕ) → IsPortInput input → IsClass traffic → HasNoneBefore traffic z input.arrivals
    → t ≤ z → credit_at input traffic t ≡ pos 0
no_credit credit line input traffic z zero valid class none l = credit.first input traffic class
no_credit credit line input traffic z (suc t) valid class none l =
    let rate : ℕ = bits_of input.rate in
    let slope : ℕ = slope_at input traffic t in
    let waits : Bool = is_waiting input traffic t in
    credit.step input traffic t class
    ∙ (ap (λ b. credit_after rate slope b waits (credit_at input traffic t)) (never_on line input traffic z t valid none l)
    ∙ (ap (λ b. credit_after rate slope false b (credit_at input traffic t)) (none_waiting input traffic z t none l)
    ∙ (ap (λ c. credit_after rate slope false false c) (no_credit credit line input traffic z t valid class none (omega (arith, l))) ∙ stays_zero rate slope)))

pub fresh_without : (credit : CreditLaws) (line : LineLaws) (input : PortInput) (traffic : Traffic) (z : ℕ) → IsPortInput input → IsClass traffic → HasNoneBefore traffic z input.arrivals
    → IsFresh input traffic z
fresh_without credit line input traffic z valid class none =
    record {
      credit = no_credit credit line input traffic z z valid class none (omega arith);
      idle = λ k e. never_busy line input traffic z k valid none (omega (arith, e));
    }
