-- What holds of a port with caps as each bit time begins.
use Rattle.std.proofs.Common.{◌≡◌, ℕ, zero, suc, ◌+◌, ◌-◌, ◌*◌, ◌<◌, ◌≤◌, Bool, true, false, refl, sym, ◌∙◌, ap, subst, inl, inr, arith}
use Rattle.std.specs.Prelude.{ℤ, pos, ◌+ℤ◌, ◌≤ℤ◌, ◌<ℤ◌, int_le, not, ◌&&◌}
use Rattle.std.proofs.Math.Nat.{mul-le-mul_left}
use Rattle.std.proofs.lemmas.{Bool.cases_Bool, Bool.and_parts, Bool.cond-true, Bool.cond-false, Bool.true≢false, Bool.false≢true, Int.ints}
use Rattle.srp_base.proofs.{Bools.held_from as not_true, Arithmetic.at_least_zero}
use Rattle.srp_base.specs.Bandwidth.{bits_of}
use Rattle.credit_shaper.specs.declared.{shaper.Traffic.Traffic, shaper.Line.Line, shaper.Line.TheVariants.Free, shaper.Line.TheVariants.Sends, port.PortInput.PortInput}
use Rattle.credit_shaper.specs.declared.shaper.Traffic.TheVariants.{A, B, Other}
use Rattle.credit_shaper.specs.{Credit.credit_after, Credit.does_send, Port.IsPortInput, Port.IsFrameSize, Trace.port_at, Bounds.credit_a_at, Bounds.credit_b_at, Bounds.slope_a_at, Bounds.slope_b_at, Bounds.is_on_line, Steps.is_waiting, Steps.was_on_line, Steps.bits_left, Steps.bits_ahead, Steps.Starts}
use Rattle.class_b_bound.specs.{BitLaws, HasCaps, is_kept_waiting, waited}
use Rattle.class_b_bound.proofs.StepLemmas.{Begins, HasSlopes, IsCounted, step_a, step_b, step_other, step_rest}

-- ---- the frame on the line goes on

goes_next : (gap cap most sa sb m gone k next : ℕ) (a b wa wb : Bool) (x y : ℤ) → (a ≡ true → b ≡ false) → gone + suc m ≡ 12336
    → HasSlopes gap cap most sa sb → Begins gap cap most (suc m) gone k a b x y → IsCounted wb b y k next
    → Begins gap cap most m (suc gone) next a b (credit_after (gap + cap) sa a wa x) (credit_after (gap + cap) sb b wb y)
goes_next gap cap most sa sb m gone k next true true wa wb x y one size s b count = absurd (true≢false (one refl))
goes_next gap cap most sa sb m gone k next true false wa wb x y one size s b count =
    let behind = b.behind_a refl in
    step_a gap cap most sa sb m gone k next wa wb x y size s b.low b.high_a b.both b.waited behind.0 behind.1 count
goes_next gap cap most sa sb m gone k next false true wa wb x y one size s b count =
    step_b gap cap most sa sb m gone k next wa wb x y size s b.low (λ _. b.high_a) b.high_b b.both count
goes_next gap cap most sa sb m gone k next false false wa wb x y one size s b count =
    let behind = b.behind_other refl refl (omega arith) in
    step_other gap cap most sa sb m gone k next wa wb x y size s b.low (λ _. b.high_a) (λ _. behind.0) (λ _ _. behind.1)
    (λ some. let seen : next ≡ suc k = (count.some some).0 in omega (arith, seen, behind.2))

-- ---- a frame starts, or the line rests

-- what holds where the line is free
record IsWide (gap cap most k : ℕ) (x y : ℤ) : Type 0 where
  low : pos 0 ≤ℤ (y +ℤ pos ((gap + cap) * 12336))
  high_a : x ≤ℤ pos (cap * 12336)
  high_b : y ≤ℤ pos (24672 * most)
  both : (x +ℤ y) ≤ℤ pos (12336 * most)
  waited : 0 < k → (pos (gap * k) +ℤ x) ≤ℤ pos (12336 * (gap + cap))

wide_of : (gap cap most k : ℕ) (a b : Bool) (x y : ℤ) → Begins gap cap most 0 12336 k a b x y → IsWide gap cap most k x y
wide_of gap cap most k a b x y h1 = grind arith

rest_of_a : (gap cap m gone k : ℕ) (x : ℤ) → gone + suc m ≡ 12336 → pos 0 ≤ℤ x → (0 < k → (pos (gap * k) +ℤ x) ≤ℤ pos (12336 * (gap + cap)))
    → gap * k + gap * suc m ≤ 12336 * (gap + cap) + 12336 * gap
rest_of_a gap cap m gone k x h1 h2 h3 = grind (arith, mul-le-mul_left, ints)

start_a : (gap cap most sa sb m gone k next : ℕ) (wa wb : Bool) (x y : ℤ) → gone + suc m ≡ 12336 → HasSlopes gap cap most sa sb
    → IsWide gap cap most k x y → pos 0 ≤ℤ x → IsCounted wb false y k next
    → Begins gap cap most m (suc gone) next true false (credit_after (gap + cap) sa true wa x) (credit_after (gap + cap) sb false wb y)
start_a gap cap most sa sb m gone k next wa wb x y size s w up count =
    let both : (x +ℤ y) ≤ℤ pos (12336 * most) = w.both in
    step_a gap cap most sa sb m gone k next wa wb x y size s w.low w.high_a both w.waited
    (omega (arith, ints, both, up)) (rest_of_a gap cap m gone k x size up w.waited) count

start_b : (gap cap most sa sb m gone k next : ℕ) (wa wb : Bool) (x y : ℤ) → gone + suc m ≡ 12336 → HasSlopes gap cap most sa sb
    → IsWide gap cap most k x y → pos 0 ≤ℤ y → (wa ≡ true → x <ℤ pos 0) → IsCounted wb true y k next
    → Begins gap cap most m (suc gone) next false true (credit_after (gap + cap) sa false wa x) (credit_after (gap + cap) sb true wb y)
start_b gap cap most sa sb m gone k next wa wb x y size s w up short count =
    step_b gap cap most sa sb m gone k next wa wb x y size s (omega (arith, ints, up))
    (λ v. let below : x <ℤ pos 0 = short v in omega (arith, ints, below)) w.high_b w.both count

start_other : (gap cap most sa sb m gone k next : ℕ) (wa wb : Bool) (x y : ℤ) → gone + suc m ≡ 12336 → HasSlopes gap cap most sa sb
    → IsWide gap cap most k x y → (wa ≡ true → x <ℤ pos 0) → (wb ≡ true → y <ℤ pos 0) → IsCounted wb false y k next
    → Begins gap cap most m (suc gone) next false false (credit_after (gap + cap) sa false wa x) (credit_after (gap + cap) sb false wb y)
start_other gap cap most sa sb m gone k next wa wb x y size s w short_a short_b count =
    step_other gap cap most sa sb m gone k next wa wb x y size s w.low
    (λ v. let below : x <ℤ pos 0 = short_a v in omega (arith, ints, below))
    (λ v. let below : y <ℤ pos 0 = short_b v in omega (arith, ints, below))
    (λ v u. let one : x <ℤ pos 0 = short_a v in let two : y <ℤ pos 0 = short_b u in omega (arith, ints, one, two))
    (λ some. let seen = count.some some in
    let below : y <ℤ pos 0 = short_b seen.1 in
    let up : pos 0 ≤ℤ y = seen.2 in absurd (omega (arith, ints, below, up)))

-- ---- in the words of an input

-- what a bit time in which class B is kept waiting has
pub record IsKept (input : PortInput) (t : ℕ) : Type 0 where
  pub waits : is_waiting input B t ≡ true
  pub credit : pos 0 ≤ℤ credit_b_at input t
  pub line : is_on_line input B t ≡ false

pub kept_of : (input : PortInput) (t : ℕ) → is_kept_waiting input t ≡ true → IsKept input t
kept_of input t e = grind (arith, and_parts, at_least_zero, not_true)

pub waited-yes : (input : PortInput) (t : ℕ) → is_kept_waiting input t ≡ true → waited input (suc t) ≡ suc (waited input t)
unfolding waited
waited-yes input t e = cond-true (is_kept_waiting input t) (suc (waited input t)) 0 e

pub waited-no : (input : PortInput) (t : ℕ) → is_kept_waiting input t ≡ false → waited input (suc t) ≡ 0
unfolding waited
waited-no input t e = cond-false (is_kept_waiting input t) (suc (waited input t)) 0 e

counted : (input : PortInput) (t : ℕ) (b : Bool) → is_on_line input B t ≡ b
    → IsCounted (is_waiting input B t) b (credit_b_at input t) (waited input t) (waited input (suc t))
counted input t b line =
    elim (cases_Bool (is_kept_waiting input t)) [
      | inl e ↦
          let more = waited-yes input t e in
          let kept : IsKept input t = kept_of input t e in
          record { most = omega (arith, more); some = λ _. (more, kept.waits, kept.credit, sym line ∙ kept.line) }
      | inr e ↦
          let none = waited-no input t e in
          record { most = omega (arith, none); some = λ some. absurd (omega (arith, none, some)) }
    ]

one_line : (l : Line) → does_send A l ≡ true → does_send B l ≡ false
one_line l h1 = grind (arith, false≢true)

-- a port with caps as a bit time begins; the rate is gap + cap
abbrev pub BeginsAt : PortInput → ℕ → ℕ → ℕ → ℕ → Type 0
BeginsAt input gap cap most t =
    Begins gap cap most (bits_left input t) (12336 - bits_left input t) (waited input t) (was_on_line input A t) (was_on_line input B t)
    (credit_a_at input t) (credit_b_at input t)

-- as the next begins, by what the line does in this one
abbrev BeginsNext : PortInput → ℕ → ℕ → ℕ → ℕ → ℕ → ℕ → Bool → Bool → Type 0
BeginsNext input gap cap most t m gone a b =
    Begins gap cap most m gone (waited input (suc t)) a b
    (credit_after (gap + cap) (slope_a_at input t) a (is_waiting input A t) (credit_a_at input t))
    (credit_after (gap + cap) (slope_b_at input t) b (is_waiting input B t) (credit_b_at input t))

next_is : (laws : BitLaws) (input : PortInput) (gap cap most t m gone : ℕ) (a b : Bool) → bits_of input.rate ≡ gap + cap
    → bits_ahead input t - 1 ≡ m → gone ≡ 12336 - m → is_on_line input A t ≡ a → is_on_line input B t ≡ b
    → BeginsNext input gap cap most t m gone a b → BeginsAt input gap cap most (suc t)
next_is laws input gap cap most t m gone a b rate left size line_a line_b next =
    let was_a : a ≡ was_on_line input A (suc t) = sym line_a ∙ sym (laws.line_next input A t) in
    let was_b : b ≡ was_on_line input B (suc t) = sym line_b ∙ sym (laws.line_next input B t) in
    let rem : m ≡ bits_left input (suc t) = sym left ∙ sym (laws.left_next input t) in
    let went : gone ≡ 12336 - bits_left input (suc t) = size ∙ ap (λ n. 12336 - n) rem in
    let x : credit_after (gap + cap) (slope_a_at input t) a (is_waiting input A t) (credit_a_at input t) ≡ credit_a_at input (suc t) =
    ap (λ r. credit_after r (slope_a_at input t) a (is_waiting input A t) (credit_a_at input t)) (sym rate)
    ∙ (ap (λ s. credit_after (bits_of input.rate) (slope_a_at input t) s (is_waiting input A t) (credit_a_at input t)) (sym line_a) ∙ sym (laws.class_a input t)) in
    let y : credit_after (gap + cap) (slope_b_at input t) b (is_waiting input B t) (credit_b_at input t) ≡ credit_b_at input (suc t) =
    ap (λ r. credit_after r (slope_b_at input t) b (is_waiting input B t) (credit_b_at input t)) (sym rate)
    ∙ (ap (λ s. credit_after (bits_of input.rate) (slope_b_at input t) s (is_waiting input B t) (credit_b_at input t)) (sym line_b) ∙ sym (laws.class_b input t)) in
    let k : ℕ = waited input (suc t) in
    let one = subst (λ (z : ℤ). Begins gap cap most m gone k a b (credit_after (gap + cap) (slope_a_at input t) a (is_waiting input A t) (credit_a_at input t)) z) y next in
    let two = subst (λ (z : ℤ). Begins gap cap most m gone k a b z (credit_b_at input (suc t))) x one in
    let three = subst (λ (s : Bool). Begins gap cap most m gone k a s (credit_a_at input (suc t)) (credit_b_at input (suc t))) was_b two in
    let four = subst (λ (s : Bool). Begins gap cap most m gone k s (was_on_line input B (suc t)) (credit_a_at input (suc t)) (credit_b_at input (suc t))) was_a three in
    let five = subst (λ (n : ℕ). Begins gap cap most m n k (was_on_line input A (suc t)) (was_on_line input B (suc t)) (credit_a_at input (suc t)) (credit_b_at input (suc t))) went four in
    subst (λ (n : ℕ). Begins gap cap most n (12336 - bits_left input (suc t)) k (was_on_line input A (suc t)) (was_on_line input B (suc t)) (credit_a_at input (suc t))
    (credit_b_at input (suc t))) rem five

-- the wide facts of an input whose line is free
wide_at : (input : PortInput) (gap cap most t : ℕ) → bits_left input t ≡ 0 → BeginsAt input gap cap most t
    → IsWide gap cap most (waited input t) (credit_a_at input t) (credit_b_at input t)
wide_at input gap cap most t free b = grind (arith, wide_of, Begins)

-- a start of each traffic
starts_next : (input : PortInput) (gap cap most t m gone : ℕ) (traffic : Traffic) → gone + suc m ≡ 12336
    → HasSlopes gap cap most (slope_a_at input t) (slope_b_at input t)
    → IsWide gap cap most (waited input t) (credit_a_at input t) (credit_b_at input t) → Starts input traffic t
    → BeginsNext input gap cap most t m (suc gone) (does_send A (Sends traffic)) (does_send B (Sends traffic))
starts_next input gap cap most t m gone A size s w start =
    start_a gap cap most (slope_a_at input t) (slope_b_at input t) m gone (waited input t) (waited input (suc t)) (is_waiting input A t) (is_waiting input B t)
    (credit_a_at input t) (credit_b_at input t) size s w start.turn (counted input t false (ap (does_send B) start.line))
starts_next input gap cap most t m gone B size s w start =
    start_b gap cap most (slope_a_at input t) (slope_b_at input t) m gone (waited input t) (waited input (suc t)) (is_waiting input A t) (is_waiting input B t)
    (credit_a_at input t) (credit_b_at input t) size s w start.turn.0 start.turn.1 (counted input t true (ap (does_send B) start.line))
starts_next input gap cap most t m gone Other size s w start =
    start_other gap cap most (slope_a_at input t) (slope_b_at input t) m gone (waited input t) (waited input (suc t)) (is_waiting input A t) (is_waiting input B t)
    (credit_a_at input t) (credit_b_at input t) size s w start.turn.0 start.turn.1 (counted input t false (ap (does_send B) start.line))

begins_next : (laws : BitLaws) (input : PortInput) (gap cap most t : ℕ) → IsPortInput input → bits_of input.rate ≡ gap + cap
    → HasSlopes gap cap most (slope_a_at input t) (slope_b_at input t) → BeginsAt input gap cap most t → BeginsAt input gap cap most (suc t)
begins_next laws input gap cap most t valid rate s b =
    let short : bits_left input t ≤ 12335 = laws.left_most input t valid in
    elim (laws.three input t valid) [
      | inl on ↦
          let m : ℕ = bits_left input t - 1 in
          let some : 0 < bits_left input t = on.left in
          let same : bits_ahead input t ≡ bits_left input t = on.same in
          let rem : bits_left input t ≡ suc m = omega (arith, some) in
          let gone : ℕ = 12336 - suc m in
          let now : Begins gap cap most (suc m) gone (waited input t) (was_on_line input A t) (was_on_line input B t) (credit_a_at input t) (credit_b_at input t) =
          subst (λ (n : ℕ). Begins gap cap most n (12336 - n) (waited input t) (was_on_line input A t) (was_on_line input B t) (credit_a_at input t) (credit_b_at input t)) rem b in
          next_is laws input gap cap most t m (suc gone) (was_on_line input A t) (was_on_line input B t) rate
          (omega (arith, same)) (omega (arith, rem, short)) (on.line A) (on.line B)
          (goes_next gap cap most (slope_a_at input t) (slope_b_at input t) m gone (waited input t) (waited input (suc t))
          (was_on_line input A t) (was_on_line input B t) (is_waiting input A t) (is_waiting input B t) (credit_a_at input t) (credit_b_at input t)
          (one_line (port_at input t).line) (omega (arith, rem, short)) s now (counted input t (was_on_line input B t) (on.line B)))
      | inr (inl start) ↦
          let st : Starts input start.0 t = start.1 in
          let m : ℕ = bits_ahead input t - 1 in
          let gone : ℕ = 12336 - suc m in
          let size : IsFrameSize (bits_ahead input t) = st.size in
          next_is laws input gap cap most t m (suc gone) (does_send A (Sends start.0)) (does_send B (Sends start.0)) rate
          refl (omega (arith, size.0, size.1)) (ap (does_send A) st.line) (ap (does_send B) st.line)
          (starts_next input gap cap most t m gone start.0 (omega (arith, size.0, size.1)) s (wide_at input gap cap most t st.free b) st)
      | inr (inr rest) ↦
          let none : bits_ahead input t ≡ 0 = rest.none in
          let w = wide_at input gap cap most t rest.free b in
          next_is laws input gap cap most t 0 12336 false false rate
          (omega (arith, none)) refl (ap (does_send A) rest.line) (ap (does_send B) rest.line)
          (step_rest gap cap most (slope_a_at input t) (slope_b_at input t) (waited input t) (waited input (suc t)) (is_waiting input A t) (is_waiting input B t)
          (credit_a_at input t) (credit_b_at input t) s w.low rest.turn.0 rest.turn.1 (counted input t false (ap (does_send B) rest.line)))
    ]

begins_zero : (gap cap most k : ℕ) (a b : Bool) (x y : ℤ) → x ≡ pos 0 → y ≡ pos 0 → k ≡ 0 → Begins gap cap most 0 12336 k a b x y
begins_zero gap cap most k a b x y zero_x zero_y none =
    record {
      low = omega (arith, ints, zero_y);
      high_a = omega (arith, ints, zero_x);
      high_b = omega (arith, ints, zero_y);
      both = omega (arith, ints, zero_x, zero_y);
      worst = subst (λ (n : ℕ). gap * n ≤ 12336 * (gap + cap) + 12336 * gap) (sym none) (omega arith);
      waited = λ some. absurd (omega (arith, none, some));
      behind_a = λ _. (omega (arith, ints, zero_y), subst (λ (n : ℕ). gap * n + gap * 0 ≤ 12336 * (gap + cap) + 12336 * gap) (sym none) (omega arith));
      behind_other = λ _ _ some. absurd (omega (arith, some));
    }

pub waited-first : (input : PortInput) → waited input 0 ≡ 0
unfolding waited
waited-first input = refl

begins_at : (laws : BitLaws) (input : PortInput) (gap cap most : ℕ) → IsPortInput input → bits_of input.rate ≡ gap + cap
    → ((t : ℕ) → HasSlopes gap cap most (slope_a_at input t) (slope_b_at input t)) → (t : ℕ) → BeginsAt input gap cap most t
begins_at laws input gap cap most valid rate s zero =
    subst (λ (n : ℕ). Begins gap cap most n (12336 - n) (waited input 0) (was_on_line input A 0) (was_on_line input B 0) (credit_a_at input 0) (credit_b_at input 0))
    (sym (laws.line_first input))
    (begins_zero gap cap most (waited input 0) (was_on_line input A 0) (was_on_line input B 0) (credit_a_at input 0) (credit_b_at input 0)
    (laws.first_a input) (laws.first_b input) (waited-first input))
begins_at laws input gap cap most valid rate s (suc t) =
    begins_next laws input gap cap most t valid rate (s t) (begins_at laws input gap cap most valid rate s t)

-- of each input with caps
pub begins : (laws : BitLaws) (input : PortInput) (cap_a cap_ab t : ℕ) → HasCaps input cap_a cap_ab
    → BeginsAt input (bits_of input.rate - cap_a) cap_a cap_ab t
begins laws input cap_a cap_ab t has =
    let gap : ℕ = bits_of input.rate - cap_a in
    let caps = has.caps in
    begins_at laws input gap cap_a cap_ab has.valid (omega (arith, caps.0, caps.1))
    (λ u. let within = laws.caps input cap_a cap_ab u has.slopes in
    record { a = within.0; both = within.1; below = omega (arith, caps.0, caps.1); part = caps.0 }) t
