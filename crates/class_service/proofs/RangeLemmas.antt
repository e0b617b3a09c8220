-- What a class's credit stays between from a bit time at which it is 0 on.
use Rattle.std.proofs.Common.{◌≡◌, ℕ, zero, suc, ◌+◌, ◌-◌, ◌*◌, ◌<◌, ◌≤◌, ◌⊎◌, inl, inr, Bool, true, false, cond, refl, sym, ◌∙◌, ap, subst, arith}
use Rattle.std.specs.Prelude.{ℤ, pos, ◌+ℤ◌, ◌-ℤ◌, ◌≤ℤ◌, ◌<ℤ◌}
use Rattle.std.proofs.Math.Nat.{mul-le-mul_left}
use Rattle.std.proofs.lemmas.{Bool.cases_Bool, Bool.cond-true, Bool.cond-false, Bool.eqb-true, Bool.true≢false, Int.ints, Int.clamps}
use Rattle.srp_base.specs.Bandwidth.{bits_of}
use Rattle.credit_shaper.specs.declared.{shaper.Traffic.Traffic, port.PortInput.PortInput}
use Rattle.credit_shaper.specs.declared.shaper.Traffic.TheVariants.{A, B, Other}
use Rattle.credit_shaper.specs.{Credit.traffic_number, Credit.credit_after, Credit.does_send, Port.IsPortInput, Bounds.is_on_line, Steps.is_waiting, Steps.was_on_line, Steps.bits_left, Steps.bits_ahead, Steps.HasTurn, Steps.Starts}
use Rattle.credit_shaper.proofs.CreditLemmas.{stays_above}
use Rattle.class_service.specs.{IsClass, credit_at, slope_at, HasLongest, HasLeastSlope, low_of, CreditLaws, LineLaws}
use Rattle.class_service.proofs.PortLemmas.{same_traffic, ahead_some, starts_short}

-- ---- a credit in one bit time

-- of a class that is short it is at most the slope
pub from_short : (rate slope : ℕ) (waits : Bool) (c : ℤ) → (waits ≡ true → c <ℤ pos 0) → credit_after rate slope false waits c ≤ℤ pos slope
from_short rate slope true c short = let below : c <ℤ pos 0 = short refl in omega (arith, ints, below)
from_short rate slope false c short = omega (arith, ints, clamps)

-- ---- the line of a traffic in one bit time

-- the frame of a traffic that is on the line goes on, or starts
pub record Continues (input : PortInput) (traffic : Traffic) (t : ℕ) : Type 0 where
  pub was : was_on_line input traffic t ≡ true
  pub some : 0 < bits_left input t
  pub same : bits_ahead input t ≡ bits_left input t

pub on_line : (laws : LineLaws) (input : PortInput) (traffic : Traffic) (t : ℕ) → IsPortInput input → is_on_line input traffic t ≡ true
    → Continues input traffic t ⊎ Starts input traffic t
on_line laws input traffic t valid on =
    elim (laws.three input t valid) [
      | inl goes ↦ inl (record { was = sym (goes.line traffic) ∙ on; some = goes.left; same = goes.same })
      | inr free ↦ elim free [
        | inl start ↦
            let number : traffic_number start.0 ≡ traffic_number traffic = eqb-true (traffic_number start.0) (traffic_number traffic) (sym (ap (does_send traffic) start.1.line) ∙ on) in
            inr (subst (λ (kind : Traffic). Starts input kind t) (same_traffic start.0 traffic number) start.1)
        | inr rest ↦ absurd (true≢false (sym on ∙ ap (does_send traffic) rest.line))
      ]
    ]

-- a class that starts has credit
turn_credit : (input : PortInput) (traffic : Traffic) (t : ℕ) → IsClass traffic → HasTurn input traffic t → pos 0 ≤ℤ credit_at input traffic t
turn_credit input A t class turn = turn
turn_credit input B t class turn = turn.0
turn_credit input Other t class turn = absurd class

-- ---- how low credit falls

-- the bits of a traffic that are left on the line
left_of : PortInput → Traffic → ℕ → ℕ
left_of input traffic t = cond (was_on_line input traffic t) (bits_left input t) 0

left_on : (input : PortInput) (traffic : Traffic) (t : ℕ) → was_on_line input traffic t ≡ true → left_of input traffic t ≡ bits_left input t
unfolding left_of
left_on input traffic t on = cond-true (was_on_line input traffic t) (bits_left input t) 0 on

left_off : (input : PortInput) (traffic : Traffic) (t : ℕ) → was_on_line input traffic t ≡ false → left_of input traffic t ≡ 0
unfolding left_of
left_off input traffic t off = cond-false (was_on_line input traffic t) (bits_left input t) 0 off

-- while its frame sends, with so many bits ahead
ahead_few : (laws : LineLaws) (input : PortInput) (traffic : Traffic) (longest t : ℕ) → IsPortInput input → HasLongest traffic longest input.arrivals
    → left_of input traffic t ≤ longest → is_on_line input traffic t ≡ true → bits_ahead input t ≤ longest
ahead_few laws input traffic longest t valid short few on =
    elim (on_line laws input traffic t valid on) [
      | inl goes ↦ let is = left_on input traffic t goes.was in omega (arith, is, few, goes.same)
      | inr start ↦ starts_short input traffic longest t short start
    ]

left_next : (laws : LineLaws) (input : PortInput) (traffic : Traffic) (t : ℕ) → is_on_line input traffic t ≡ true → left_of input traffic (suc t) ≡ bits_ahead input t - 1
left_next laws input traffic t on = left_on input traffic (suc t) (laws.next input traffic t ∙ on) ∙ laws.left input t

-- no more of a traffic is left on the line than its longest frame has
left_few : (laws : LineLaws) (input : PortInput) (traffic : Traffic) (longest t : ℕ) → IsPortInput input → HasLongest traffic longest input.arrivals
    → left_of input traffic t ≤ longest
left_few laws input traffic longest zero valid short =
    elim (cases_Bool (was_on_line input traffic 0)) [
      | inl on ↦ let is = left_on input traffic 0 on in let first = laws.first input in omega (arith, is, first)
      | inr off ↦ let is = left_off input traffic 0 off in omega (arith, is)
    ]
left_few laws input traffic longest (suc t) valid short =
    let before = left_few laws input traffic longest t valid short in
    elim (cases_Bool (is_on_line input traffic t)) [
      | inl on ↦
          let is = left_next laws input traffic t on in
          let few = ahead_few laws input traffic longest t valid short before on in
          omega (arith, is, few)
      | inr off ↦ let is = left_off input traffic (suc t) (laws.next input traffic t ∙ off) in omega (arith, is)
    ]

-- the credit, with what the frame on the line has taken
HasLow : PortInput → Traffic → ℕ → ℕ → ℕ → Type 0
HasLow input traffic gap longest t = pos 0 ≤ℤ (credit_at input traffic t +ℤ pos (gap * (longest - left_of input traffic t)))

sends_low : (gap longest ahead rate slope : ℕ) (c : ℤ) → 0 < ahead → ahead ≤ longest → rate ≤ slope + gap → pos 0 ≤ℤ (c +ℤ pos (gap * (longest - ahead)))
    → pos 0 ≤ℤ (c +ℤ pos slope -ℤ pos rate +ℤ pos (gap * (longest - (ahead - 1))))
sends_low gap longest ahead rate slope c some few fast low =
    let more : longest - (ahead - 1) ≡ suc (longest - ahead) = omega (arith, some, few) in
    let room : gap * (longest - (ahead - 1)) ≡ gap * (longest - ahead) + gap = rw more (omega arith) in
    omega (arith, ints, low, room, fast)

weaker_low : (gap longest left : ℕ) (c : ℤ) → pos 0 ≤ℤ (c +ℤ pos (gap * (longest - left))) → pos 0 ≤ℤ (c +ℤ pos (gap * (longest - 0)))
weaker_low gap longest left c low =
    let less : gap * (longest - left) ≤ gap * (longest - 0) = mul-le-mul_left gap (omega arith) in
    omega (arith, ints, low, less)

higher_low : (n : ℕ) (c : ℤ) → pos 0 ≤ℤ c → pos 0 ≤ℤ (c +ℤ pos n)
higher_low n c up = omega (arith, ints, up)

-- with the bits ahead in place of those left
low_ahead : (laws : LineLaws) (input : PortInput) (traffic : Traffic) (gap longest t : ℕ) → IsPortInput input → IsClass traffic → HasLow input traffic gap longest t
    → is_on_line input traffic t ≡ true → pos 0 ≤ℤ (credit_at input traffic t +ℤ pos (gap * (longest - bits_ahead input t)))
unfolding HasLow
low_ahead laws input traffic gap longest t valid class low on =
    elim (on_line laws input traffic t valid on) [
      | inl goes ↦
          let same : left_of input traffic t ≡ bits_ahead input t = left_on input traffic t goes.was ∙ sym goes.same in
          subst (λ (n : ℕ). pos 0 ≤ℤ (credit_at input traffic t +ℤ pos (gap * (longest - n)))) same low
      | inr start ↦ higher_low (gap * (longest - bits_ahead input t)) (credit_at input traffic t) (turn_credit input traffic t class start.turn)
    ]

low_next : (credit : CreditLaws) (laws : LineLaws) (input : PortInput) (traffic : Traffic) (least longest t : ℕ) → IsPortInput input → IsClass traffic
    → HasLongest traffic longest input.arrivals → least ≤ slope_at input traffic t → HasLow input traffic (bits_of input.rate - least) longest t
    → HasLow input traffic (bits_of input.rate - least) longest (suc t)
unfolding HasLow
low_next credit laws input traffic least longest t valid class short slope low =
    let rate : ℕ = bits_of input.rate in
    let gap : ℕ = rate - least in
    let step = credit.step input traffic t class in
    elim (cases_Bool (is_on_line input traffic t)) [
      | inl on ↦
          let some = ahead_some laws input traffic t valid on in
          let few = ahead_few laws input traffic longest t valid short (left_few laws input traffic longest t valid short) on in
          let next : credit_at input traffic (suc t) ≡ credit_at input traffic t +ℤ pos (slope_at input traffic t) -ℤ pos rate =
          step ∙ ap (λ b. credit_after rate (slope_at input traffic t) b (is_waiting input traffic t) (credit_at input traffic t)) on in
          let down = sends_low gap longest (bits_ahead input t) rate (slope_at input traffic t) (credit_at input traffic t) some few (omega (arith, slope))
          (low_ahead laws input traffic gap longest t valid class low on) in
          subst (λ (n : ℕ). pos 0 ≤ℤ (credit_at input traffic (suc t) +ℤ pos (gap * (longest - n)))) (sym (left_next laws input traffic t on))
          (subst (λ (c : ℤ). pos 0 ≤ℤ (c +ℤ pos (gap * (longest - (bits_ahead input t - 1))))) (sym next) down)
      | inr off ↦
          let next : credit_at input traffic (suc t) ≡ credit_after rate (slope_at input traffic t) false (is_waiting input traffic t) (credit_at input traffic t) =
          step ∙ ap (λ b. credit_after rate (slope_at input traffic t) b (is_waiting input traffic t) (credit_at input traffic t)) off in
          let wide = weaker_low gap longest (left_of input traffic t) (credit_at input traffic t) low in
          let kept = stays_above rate (slope_at input traffic t) (gap * (longest - 0)) (is_waiting input traffic t) (credit_at input traffic t) wide in
          subst (λ (n : ℕ). pos 0 ≤ℤ (credit_at input traffic (suc t) +ℤ pos (gap * (longest - n)))) (sym (left_off input traffic (suc t) (laws.next input traffic t ∙ off)))
          (subst (λ (c : ℤ). pos 0 ≤ℤ (c +ℤ pos (gap * (longest - 0)))) (sym next) kept)
    ]

low_over : (credit : CreditLaws) (laws : LineLaws) (input : PortInput) (traffic : Traffic) (least longest from n : ℕ) → IsPortInput input → IsClass traffic
    → HasLongest traffic longest input.arrivals → credit_at input traffic from ≡ pos 0 → HasLeastSlope input traffic least from (from + n)
    → HasLow input traffic (bits_of input.rate - least) longest (from + n)
unfolding HasLow
low_over credit laws input traffic least longest from zero valid class short none slopes =
    let at : from ≡ from + 0 = omega arith in
    subst (HasLow input traffic (bits_of input.rate - least) longest) at
    (subst (λ (c : ℤ). pos 0 ≤ℤ (c +ℤ pos ((bits_of input.rate - least) * (longest - left_of input traffic from)))) (sym none) (omega (arith, ints)))
low_over credit laws input traffic least longest from (suc n) valid class short none slopes =
    let at : suc (from + n) ≡ from + suc n = omega arith in
    subst (HasLow input traffic (bits_of input.rate - least) longest) at
    (low_next credit laws input traffic least longest (from + n) valid class short (slopes (from + n) (omega arith) (omega arith))
    (low_over credit laws input traffic least longest from n valid class short none (λ t low high. slopes t low (omega (arith, high)))))

low_by : (gap longest left : ℕ) (c : ℤ) → pos 0 ≤ℤ (c +ℤ pos (gap * (longest - left))) → (pos 0 -ℤ pos (gap * longest)) ≤ℤ c
low_by gap longest left c low =
    let less : gap * (longest - left) ≤ gap * longest = mul-le-mul_left gap (omega arith) in
    omega (arith, ints, low, less)

pub falls_no_lower : (credit : CreditLaws) (laws : LineLaws) (input : PortInput) (traffic : Traffic) (least longest from t : ℕ) → IsPortInput input → IsClass traffic
    → HasLongest traffic longest input.arrivals → credit_at input traffic from ≡ pos 0 → HasLeastSlope input traffic least from t → from ≤ t
    → low_of (bits_of input.rate) least longest ≤ℤ credit_at input traffic t
unfolding HasLow
falls_no_lower credit laws input traffic least longest from t valid class short none slopes up =
    let at : from + (t - from) ≡ t = omega (arith, up) in
    low_by (bits_of input.rate - least) longest (left_of input traffic t) (credit_at input traffic t)
    (subst (HasLow input traffic (bits_of input.rate - least) longest) at
    (low_over credit laws input traffic least longest from (t - from) valid class short none (subst (HasLeastSlope input traffic least from) (sym at) slopes)))
