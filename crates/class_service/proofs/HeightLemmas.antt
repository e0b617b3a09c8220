-- How high each class's credit rises, bit time by bit time.
use Rattle.std.proofs.Common.{◌≡◌, ℕ, zero, suc, ◌+◌, ◌-◌, ◌*◌, ◌<◌, ◌≤◌, inl, inr, Bool, true, false, refl, sym, ◌∙◌, ap, subst, arith}
use Rattle.std.specs.Prelude.{ℤ, pos, ◌+ℤ◌, ◌-ℤ◌, ◌≤ℤ◌, ◌<ℤ◌}
use Rattle.std.proofs.Math.Nat.{mul-le-mul_left}
use Rattle.std.proofs.lemmas.{Bool.cases_Bool, Bool.cases_lt, Bool.true≢false, Bool.false≢true, Int.ints}
use Rattle.srp_base.specs.Bandwidth.{bits_of}
use Rattle.credit_shaper.specs.declared.{shaper.Traffic.Traffic, shaper.Line.Line, shaper.Line.TheVariants.Free, shaper.Line.TheVariants.Sends, port.PortInput.PortInput}
use Rattle.credit_shaper.specs.declared.shaper.Traffic.TheVariants.{A, B, Other}
use Rattle.credit_shaper.specs.{Credit.credit_after, Credit.does_send, Port.IsPortInput, Trace.port_in, Bounds.credit_a_at, Bounds.credit_b_at, Bounds.slope_a_at, Bounds.slope_b_at, Bounds.is_on_line, Bounds.IsStretch, Bounds.IsCreditAWithin, Steps.is_waiting, Steps.was_on_line, Steps.bits_left, Steps.bits_ahead, Steps.GoesOn, Steps.Starts}
use Rattle.credit_shaper.proofs.CreditLemmas.{rises}
use Rattle.class_service.specs.{IsClass, credit_at, slope_at, HaveMostSlopes, HasRoom, high_of, CreditLaws, LineLaws}
use Rattle.class_service.proofs.{RangeLemmas.from_short, RiseLemmas.times, RiseLemmas.Rises, RiseLemmas.rises_first, RiseLemmas.rises_a, RiseLemmas.starts_a, RiseLemmas.rises_b, RiseLemmas.rises_other, RiseLemmas.rises_short, RiseLemmas.high_by}

-- ---- a class's next credit

up_by : (slope most : ℕ) (x y : ℤ) → y ≤ℤ (x +ℤ pos slope) → slope ≤ most → y ≤ℤ (x +ℤ pos most)
up_by slope most x y h l = omega (arith, ints, h, l)

-- where none of its frames is on the line it is no more than it was, and the slope
next_up : (credit : CreditLaws) (input : PortInput) (traffic : Traffic) (most t : ℕ) → IsClass traffic → is_on_line input traffic t ≡ false → slope_at input traffic t ≤ most
    → credit_at input traffic (suc t) ≤ℤ (credit_at input traffic t +ℤ pos most)
next_up credit input traffic most t class off slope =
    up_by (slope_at input traffic t) most (credit_at input traffic t) (credit_at input traffic (suc t))
    (subst (λ (c : ℤ). c ≤ℤ (credit_at input traffic t +ℤ pos (slope_at input traffic t)))
    (sym (credit.step input traffic t class ∙ ap (λ b. credit_after (bits_of input.rate) (slope_at input traffic t) b (is_waiting input traffic t) (credit_at input traffic t)) off))
    (rises (bits_of input.rate) (slope_at input traffic t) (is_waiting input traffic t) (credit_at input traffic t))) slope

most_by : (slope most : ℕ) (y : ℤ) → y ≤ℤ pos slope → slope ≤ most → y ≤ℤ pos most
most_by slope most y h l = omega (arith, ints, h, l)

-- where it is short too it is no more than the slope
next_short : (credit : CreditLaws) (input : PortInput) (traffic : Traffic) (most t : ℕ) → IsClass traffic → is_on_line input traffic t ≡ false → slope_at input traffic t ≤ most
    → (is_waiting input traffic t ≡ true → credit_at input traffic t <ℤ pos 0) → credit_at input traffic (suc t) ≤ℤ pos most
next_short credit input traffic most t class off slope short =
    most_by (slope_at input traffic t) most (credit_at input traffic (suc t))
    (subst (λ (c : ℤ). c ≤ℤ pos (slope_at input traffic t))
    (sym (credit.step input traffic t class ∙ ap (λ b. credit_after (bits_of input.rate) (slope_at input traffic t) b (is_waiting input traffic t) (credit_at input traffic t)) off))
    (from_short (bits_of input.rate) (slope_at input traffic t) (is_waiting input traffic t) (credit_at input traffic t) short)) slope

down_by : (slope most rate : ℕ) (x y : ℤ) → y ≡ x +ℤ pos slope -ℤ pos rate → slope ≤ most → y ≤ℤ (x +ℤ pos most -ℤ pos rate)
down_by slope most rate x y h l = omega (arith, ints, h, l)

-- where its frame is on the line the rate is taken
next_down : (credit : CreditLaws) (input : PortInput) (traffic : Traffic) (most t : ℕ) → IsClass traffic → is_on_line input traffic t ≡ true → slope_at input traffic t ≤ most
    → credit_at input traffic (suc t) ≤ℤ (credit_at input traffic t +ℤ pos most -ℤ pos (bits_of input.rate))
next_down credit input traffic most t class on slope =
    down_by (slope_at input traffic t) most (bits_of input.rate) (credit_at input traffic t) (credit_at input traffic (suc t))
    (credit.step input traffic t class ∙ ap (λ b. credit_after (bits_of input.rate) (slope_at input traffic t) b (is_waiting input traffic t) (credit_at input traffic t)) on) slope

-- ---- class A's credit by the bits left on the line

-- it is at most what the rate gives over the longest frame; and unless its own frame is on the line, over the bits of it that
-- have gone
record Stands (rate left : ℕ) (on_a : Bool) (x : ℤ) : Type 0 where
  all : x ≤ℤ pos (rate * 12336)
  off : on_a ≡ false → (x +ℤ pos (rate * left)) ≤ℤ pos (rate * 12336)

StandsAt : PortInput → ℕ → Type 0
StandsAt input t = Stands (bits_of input.rate) (bits_left input t) (was_on_line input A t) (credit_a_at input t)

stands_on : (rate left : ℕ) (x y : ℤ) → y ≤ℤ (x +ℤ pos rate -ℤ pos rate) → x ≤ℤ pos (rate * 12336) → Stands rate left true y
stands_on rate left x y down all = record { all = omega (arith, ints, down, all); off = λ e. absurd (true≢false e) }

stands_off : (rate left : ℕ) (x y : ℤ) → y ≤ℤ (x +ℤ pos rate) → (x +ℤ pos (rate * suc left)) ≤ℤ pos (rate * 12336) → Stands rate left false y
stands_off rate left x y up off = record { all = omega (arith, ints, up, off); off = λ _. omega (arith, ints, up, off) }

stands_short : (rate left : ℕ) (y : ℤ) → left < 12336 → y ≤ℤ pos rate → Stands rate left false y
stands_short rate left y size up =
    let room : rate * suc left ≤ rate * 12336 = mul-le-mul_left rate size in
    record { all = omega (arith, ints, up, room); off = λ _. omega (arith, ints, up, room) }

-- a bit less to go
less_ahead : (laws : LineLaws) (input : PortInput) (t : ℕ) → 0 < bits_ahead input t → bits_ahead input t ≡ suc (bits_left input (suc t))
less_ahead laws input t some = let next = laws.left input t in omega (arith, next, some)

-- the words of a bit time at its end
to_next : (laws : LineLaws) (input : PortInput) (t left : ℕ) (on_a : Bool) → is_on_line input A t ≡ on_a → bits_left input (suc t) ≡ left
    → Stands (bits_of input.rate) left on_a (credit_a_at input (suc t)) → StandsAt input (suc t)
unfolding StandsAt
to_next laws input t left on_a line is stands =
    subst (λ (n : ℕ). Stands (bits_of input.rate) n (was_on_line input A (suc t)) (credit_a_at input (suc t))) (sym is)
    (subst (λ (b : Bool). Stands (bits_of input.rate) left b (credit_a_at input (suc t))) (sym (laws.next input A t ∙ line)) stands)

stands_next : (credit : CreditLaws) (laws : LineLaws) (input : PortInput) (t : ℕ) → IsPortInput input → StandsAt input t → StandsAt input (suc t)
unfolding StandsAt
stands_next credit laws input t valid s =
    let rate : ℕ = bits_of input.rate in
    let slope : slope_a_at input t ≤ rate = omega (arith, (laws.below input t valid).0) in
    let small = laws.most input (suc t) valid in
    elim (cases_Bool (is_on_line input A t)) [
      | inl on ↦
          to_next laws input t (bits_left input (suc t)) true on refl
          (stands_on rate (bits_left input (suc t)) (credit_a_at input t) (credit_a_at input (suc t)) (next_down credit input A rate t tt on slope) s.all)
      | inr off ↦
          let short : (is_waiting input A t ≡ true → credit_a_at input t <ℤ pos 0) → StandsAt input (suc t) =
          λ h. to_next laws input t (bits_left input (suc t)) false off refl
          (stands_short rate (bits_left input (suc t)) (credit_a_at input (suc t)) (omega (arith, small)) (next_short credit input A rate t tt off slope h)) in
          elim (laws.three input t valid) [
            | inl goes ↦
                let was : was_on_line input A t ≡ false = sym (goes.line A) ∙ off in
                let ahead = less_ahead laws input t (omega (arith, goes.left, goes.same)) in
                let left : bits_left input t ≡ suc (bits_left input (suc t)) = sym goes.same ∙ ahead in
                to_next laws input t (bits_left input (suc t)) false off refl
                (stands_off rate (bits_left input (suc t)) (credit_a_at input t) (credit_a_at input (suc t)) (next_up credit input A rate t tt off slope)
                (subst (λ (n : ℕ). (credit_a_at input t +ℤ pos (rate * n)) ≤ℤ pos (rate * 12336)) left (s.off was)))
            | inr free ↦ elim free [
              | inl start ↦ short (short_of start.0 start.1 off)
              | inr rest ↦ short rest.turn.0
            ]
          ]
    ]
  where
    short_of : (kind : Traffic) → Starts input kind t → is_on_line input A t ≡ false → is_waiting input A t ≡ true → credit_a_at input t <ℤ pos 0
    short_of A start off = absurd (true≢false (sym (ap (does_send A) start.line) ∙ off))
    short_of B start off = start.turn.1
    short_of Other start off = start.turn.0

stands : (credit : CreditLaws) (laws : LineLaws) (input : PortInput) (t : ℕ) → IsPortInput input → StandsAt input t
unfolding StandsAt
stands credit laws input zero valid =
    let none : credit_a_at input 0 ≡ pos 0 = credit.first input A tt in
    let free = laws.first input in
    let part : bits_of input.rate * bits_left input 0 ≡ 0 = ap (λ n. bits_of input.rate * n) free ∙ omega arith in
    record { all = omega (arith, ints, none); off = λ _. omega (arith, ints, none, part) }
stands credit laws input (suc t) valid = stands_next credit laws input t valid (stands credit laws input t valid)

-- ---- class B's credit

RisesAt : PortInput → ℕ → ℕ → ℕ → Type 0
RisesAt input a b t =
    Rises (bits_of input.rate - a) a b (bits_left input t) (was_on_line input A t) (was_on_line input B t) (credit_a_at input t) (credit_b_at input t)

-- the caps of both slopes in a bit time
record HasCaps (input : PortInput) (a b t : ℕ) : Type 0 where
  class_a : slope_a_at input t ≤ a
  class_b : slope_b_at input t ≤ b
  below : a < bits_of input.rate
  room : a + b ≤ bits_of input.rate

rises_begin : (credit : CreditLaws) (laws : LineLaws) (input : PortInput) (a b t : ℕ) → IsPortInput input → a < bits_of input.rate → credit_b_at input t ≡ pos 0 → RisesAt input a b t
unfolding RisesAt StandsAt
rises_begin credit laws input a b t valid below none =
    let s = stands credit laws input t valid in
    let rate : bits_of input.rate ≡ bits_of input.rate - a + a = omega (arith, below) in
    let all : credit_a_at input t ≤ℤ pos ((bits_of input.rate - a + a) * 12336) = subst (λ (n : ℕ). credit_a_at input t ≤ℤ pos (n * 12336)) rate s.all in
    rises_first (bits_of input.rate - a) a b (bits_left input t) (was_on_line input A t) (was_on_line input B t) (credit_a_at input t) (credit_b_at input t)
    (omega (arith, laws.most input t valid)) none all
    (λ e. subst (λ (n : ℕ). (credit_a_at input t +ℤ pos (n * bits_left input t)) ≤ℤ pos (n * 12336)) rate (s.off e))

rises_to : (laws : LineLaws) (input : PortInput) (a b t : ℕ) (on_a on_b : Bool) → is_on_line input A t ≡ on_a → is_on_line input B t ≡ on_b
    → Rises (bits_of input.rate - a) a b (bits_left input (suc t)) on_a on_b (credit_a_at input (suc t)) (credit_b_at input (suc t)) → RisesAt input a b (suc t)
unfolding RisesAt
rises_to laws input a b t on_a on_b line_a line_b r =
    subst (λ (d : Bool). Rises (bits_of input.rate - a) a b (bits_left input (suc t)) (was_on_line input A (suc t)) d (credit_a_at input (suc t)) (credit_b_at input (suc t)))
    (sym (laws.next input B t ∙ line_b))
    (subst (λ (c : Bool). Rises (bits_of input.rate - a) a b (bits_left input (suc t)) c on_b (credit_a_at input (suc t)) (credit_b_at input (suc t)))
    (sym (laws.next input A t ∙ line_a)) r)

-- the rate, in its two parts
with_rate : (input : PortInput) (a most : ℕ) (x y : ℤ) → a < bits_of input.rate → y ≤ℤ (x +ℤ pos most -ℤ pos (bits_of input.rate)) → y ≤ℤ (x +ℤ pos most -ℤ pos (bits_of input.rate - a + a))
with_rate input a most x y below h = subst (λ (n : ℕ). y ≤ℤ (x +ℤ pos most -ℤ pos n)) (omega (arith, below)) h

-- a frame of class A is on the line, and so many bits of it are ahead
sends_a : (credit : CreditLaws) (laws : LineLaws) (input : PortInput) (a b t : ℕ) → HasCaps input a b t → is_on_line input A t ≡ true → is_on_line input B t ≡ false
    → 0 < bits_ahead input t → RisesAt input a b t
    → (times (bits_of input.rate - a) (credit_b_at input t) +ℤ pos (b * (bits_of input.rate - a) * bits_ahead input t))
    ≤ℤ pos (12336 * (b * (bits_of input.rate - a + a)) + 12336 * (b * (bits_of input.rate - a)))
    → RisesAt input a b (suc t)
unfolding RisesAt
sends_a credit laws input a b t caps on off some r high =
    let gap : ℕ = bits_of input.rate - a in
    let ahead = less_ahead laws input t some in
    rises_to laws input a b t true false on off
    (rises_a gap a b (bits_left input (suc t)) (credit_a_at input t) (credit_b_at input t) (credit_a_at input (suc t)) (credit_b_at input (suc t))
    (with_rate input a a (credit_a_at input t) (credit_a_at input (suc t)) caps.below (next_down credit input A a t tt on caps.class_a))
    (next_up credit input B b t tt off caps.class_b) r.both
    (subst (λ (n : ℕ). (times gap (credit_b_at input t) +ℤ pos (b * gap * n)) ≤ℤ pos (12336 * (b * (gap + a)) + 12336 * (b * gap))) ahead high))

-- a frame of class B is on the line
sends_b : (credit : CreditLaws) (laws : LineLaws) (input : PortInput) (a b t : ℕ) → HasCaps input a b t → is_on_line input A t ≡ false → is_on_line input B t ≡ true
    → RisesAt input a b t → RisesAt input a b (suc t)
unfolding RisesAt
sends_b credit laws input a b t caps off on r =
    rises_to laws input a b t false true off on
    (rises_b (bits_of input.rate - a) a b (bits_left input (suc t)) (credit_a_at input t) (credit_b_at input t) (credit_a_at input (suc t)) (credit_b_at input (suc t))
    (omega (arith, caps.room)) (next_up credit input A a t tt off caps.class_a)
    (with_rate input a b (credit_b_at input t) (credit_b_at input (suc t)) caps.below (next_down credit input B b t tt on caps.class_b)) r.both r.high)

-- both classes are short
sends_none : (credit : CreditLaws) (laws : LineLaws) (input : PortInput) (a b t : ℕ) → IsPortInput input → HasCaps input a b t → is_on_line input A t ≡ false → is_on_line input B t ≡ false
    → (is_waiting input A t ≡ true → credit_a_at input t <ℤ pos 0) → (is_waiting input B t ≡ true → credit_b_at input t <ℤ pos 0) → RisesAt input a b (suc t)
unfolding RisesAt
sends_none credit laws input a b t valid caps off_a off_b short_a short_b =
    let small = laws.most input (suc t) valid in
    rises_to laws input a b t false false off_a off_b
    (rises_short (bits_of input.rate - a) a b (bits_left input (suc t)) (credit_a_at input (suc t)) (credit_b_at input (suc t)) (omega (arith, small))
    (next_short credit input A a t tt off_a caps.class_a short_a) (next_short credit input B b t tt off_b caps.class_b short_b))

-- the frame on the line goes on
goes_on : (credit : CreditLaws) (laws : LineLaws) (input : PortInput) (a b t : ℕ) → HasCaps input a b t → GoesOn input t → RisesAt input a b t → RisesAt input a b (suc t)
unfolding RisesAt
goes_on credit laws input a b t caps goes r =
    let gap : ℕ = bits_of input.rate - a in
    let some : 0 < bits_ahead input t = omega (arith, goes.left, goes.same) in
    let left : bits_left input t ≡ suc (bits_left input (suc t)) = sym goes.same ∙ less_ahead laws input t some in
    let most : ℕ = 12336 * (b * (gap + a)) in
    elim (cases_Bool (is_on_line input A t)) [
      | inl on ↦
          let high = r.behind_a (sym (goes.line A) ∙ on) in
          sends_a credit laws input a b t caps on (not_both on) some r
          (subst (λ (n : ℕ). (times gap (credit_b_at input t) +ℤ pos (b * gap * n)) ≤ℤ pos (most + 12336 * (b * gap))) (sym goes.same) high)
      | inr off ↦ elim (cases_Bool (is_on_line input B t)) [
        | inl on ↦ sends_b credit laws input a b t caps off on r
        | inr off_b ↦
            let behind = r.behind_other (sym (goes.line A) ∙ off) (sym (goes.line B) ∙ off_b) goes.left in
            rises_to laws input a b t false false off off_b
            (rises_other gap a b (bits_left input (suc t)) (credit_a_at input t) (credit_b_at input t) (credit_a_at input (suc t)) (credit_b_at input (suc t))
            (next_up credit input A a t tt off caps.class_a) (next_up credit input B b t tt off_b caps.class_b)
            (subst (λ (n : ℕ). (times gap (credit_b_at input t) +ℤ pos (b * gap * n)) ≤ℤ pos (12336 * (b * gap))) left behind.0)
            (subst (λ (n : ℕ). (times gap (credit_b_at input t) +ℤ times b (credit_a_at input t) +ℤ pos (b * (gap + a) * n)) ≤ℤ pos most) left behind.1))
      ]
    ]
  where
    one_line : (line : Line) → does_send A line ≡ true → does_send B line ≡ false
    one_line Free e = refl
    one_line (Sends A) e = refl
    one_line (Sends B) e = absurd (false≢true e)
    one_line (Sends Other) e = refl

    not_both : is_on_line input A t ≡ true → is_on_line input B t ≡ false
    not_both on = one_line (port_in input t).line on

-- a frame starts
starts_on : (credit : CreditLaws) (laws : LineLaws) (input : PortInput) (a b t : ℕ) (kind : Traffic) → IsPortInput input → HasCaps input a b t → Starts input kind t
    → RisesAt input a b t → RisesAt input a b (suc t)
unfolding RisesAt
starts_on credit laws input a b t A valid caps start r =
    let gap : ℕ = bits_of input.rate - a in
    let size = start.size in
    sends_a credit laws input a b t caps (ap (does_send A) start.line) (ap (does_send B) start.line) (omega (arith, size.0)) r
    (starts_a gap b (12336 * (b * (gap + a))) (bits_ahead input t) (credit_a_at input t) (credit_b_at input t) start.turn size.1 r.both)
starts_on credit laws input a b t B valid caps start r = sends_b credit laws input a b t caps (ap (does_send A) start.line) (ap (does_send B) start.line) r
starts_on credit laws input a b t Other valid caps start r =
    sends_none credit laws input a b t valid caps (ap (does_send A) start.line) (ap (does_send B) start.line) start.turn.0 start.turn.1

rises_next : (credit : CreditLaws) (laws : LineLaws) (input : PortInput) (a b t : ℕ) → IsPortInput input → HasCaps input a b t → RisesAt input a b t → RisesAt input a b (suc t)
rises_next credit laws input a b t valid caps r =
    elim (laws.three input t valid) [
      | inl goes ↦ goes_on credit laws input a b t caps goes r
      | inr free ↦ elim free [
        | inl start ↦ starts_on credit laws input a b t start.0 valid caps start.1 r
        | inr rest ↦ sends_none credit laws input a b t valid caps (ap (does_send A) rest.line) (ap (does_send B) rest.line) rest.turn.0 rest.turn.1
      ]
    ]

rises_over : (credit : CreditLaws) (laws : LineLaws) (input : PortInput) (a b from n : ℕ) → IsPortInput input → (a < bits_of input.rate) × (a + b ≤ bits_of input.rate)
    → credit_b_at input from ≡ pos 0 → HaveMostSlopes input a b from (from + n) → RisesAt input a b (from + n)
rises_over credit laws input a b from zero valid room none slopes =
    subst (RisesAt input a b) (omega arith) (rises_begin credit laws input a b from valid room.0 none)
rises_over credit laws input a b from (suc n) valid room none slopes =
    let t : ℕ = from + n in
    let here = slopes t (omega arith) (omega arith) in
    subst (RisesAt input a b) (omega arith)
    (rises_next credit laws input a b t valid (record { class_a = here.0; class_b = here.1; below = room.0; room = room.1 })
    (rises_over credit laws input a b from n valid room none (λ k low high. slopes k low (omega (arith, high)))))

class_b_high : (credit : CreditLaws) (laws : LineLaws) (input : PortInput) (a b from t : ℕ) → IsPortInput input → (a < bits_of input.rate) × (a + b ≤ bits_of input.rate)
    → credit_b_at input from ≡ pos 0 → HaveMostSlopes input a b from t → from ≤ t → credit_b_at input t ≤ℤ high_of (bits_of input.rate) a b B
unfolding RisesAt
class_b_high credit laws input a b from t valid room none slopes up =
    let at : from + (t - from) ≡ t = omega (arith, up) in
    let r : RisesAt input a b t = subst (RisesAt input a b) at (rises_over credit laws input a b from (t - from) valid room none (subst (HaveMostSlopes input a b from) (sym at) slopes)) in
    high_by (bits_of input.rate) a b (credit_b_at input t) room.0 r.high

-- ---- class A's, as credit_shaper has it

-- that credit stays within from a bit time at which it is 0 on
abbrev pub HasHighA : Type 0
HasHighA = (input : PortInput) (least most from to t : ℕ) → IsPortInput input → IsStretch input least most from to → from ≤ t → t ≤ to → IsCreditAWithin input least most t

class_a_high : HasHighA → (input : PortInput) (a b from t : ℕ) → IsPortInput input → credit_a_at input from ≡ pos 0 → HaveMostSlopes input a b from t → from ≤ t
    → credit_a_at input t ≤ℤ pos (12336 * a)
class_a_high law input a b from t valid none slopes up =
    elim (cases_lt from t) [
      | inl l ↦
          (law input 0 a from t t valid (record { some = l; from_zero = none; slopes = λ k low high. (omega arith, (slopes k low high).0) }) up (omega arith)).high
      | inr l ↦
          let same : from ≡ t = omega (arith, l, up) in
          subst (λ (k : ℕ). credit_a_at input k ≤ℤ pos (12336 * a)) same (omega (arith, ints, none))
    ]

pub rises_no_higher : (credit : CreditLaws) (laws : LineLaws) → HasHighA → (input : PortInput) (traffic : Traffic) (a b from t : ℕ) → IsPortInput input
    → HasRoom (bits_of input.rate) a b traffic → credit_at input traffic from ≡ pos 0 → HaveMostSlopes input a b from t → from ≤ t
    → credit_at input traffic t ≤ℤ high_of (bits_of input.rate) a b traffic
rises_no_higher credit laws law input A a b from t valid room none slopes up = class_a_high law input a b from t valid none slopes up
rises_no_higher credit laws law input B a b from t valid room none slopes up = class_b_high credit laws input a b from t valid room none slopes up
rises_no_higher credit laws law input Other a b from t valid room none slopes up = absurd room
