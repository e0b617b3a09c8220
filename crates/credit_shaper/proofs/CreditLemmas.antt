-- What a class's credit is after some bit times.
use Rattle.std.proofs.Common.{◌≡◌, ℕ, zero, suc, ◌+◌, ◌*◌, ◌<◌, ◌≤◌, Bool, true, false, refl, sym, ◌∙◌, inl, inr, arith}
use Rattle.std.specs.Prelude.{ℤ, pos, ◌+ℤ◌, ◌-ℤ◌, ◌≤ℤ◌, ◌<ℤ◌, negsuc, unsigned_abs, int_le, ◌&&◌}
use Rattle.std.proofs.lemmas.{Bool.and_cases, Bool.true≢false, Bool.le-leb, Int.ints, Int.clamps}
use Rattle.std.proofs.Math.Nat.{mul-le-mul_right}
use Rattle.std.specs.Int.{int_min}
use Rattle.srp_base.specs.Bandwidth.{bits_of}
use Rattle.credit_shaper.specs.{A, B, Line, Shaper, does_send, credit_after, credit_after_bits, after_bits}

pub credit-sends : (n rate slope : ℕ) (waits : Bool) (c : ℤ)
    → credit_after_bits n rate slope true waits c ≡ c +ℤ pos (n * slope) -ℤ pos (n * rate)
unfolding credit_after_bits
credit-sends zero rate slope waits c = omega (arith, ints)
credit-sends (suc n) rate slope waits c =
    let before : credit_after_bits n rate slope true waits c ≡ c +ℤ pos (n * slope) -ℤ pos (n * rate) = credit-sends n rate slope waits c in
    omega (arith, ints)

pub credit-waits : (n rate slope : ℕ) (c : ℤ)
    → credit_after_bits n rate slope false true c ≡ c +ℤ pos (n * slope)
unfolding credit_after_bits
credit-waits zero rate slope c = omega (arith, ints)
credit-waits (suc n) rate slope c =
    let before : credit_after_bits n rate slope false true c ≡ c +ℤ pos (n * slope) = credit-waits n rate slope c in
    omega (arith, ints)

pub credit-idles : (n rate slope : ℕ) (c : ℤ)
    → credit_after_bits (suc n) rate slope false false c ≡ int_min (pos 0) (c +ℤ pos (suc n * slope))
unfolding credit_after_bits
credit-idles zero rate slope c = omega (arith, ints, clamps)
credit-idles (suc n) rate slope c =
    let before : credit_after_bits (suc n) rate slope false false c ≡ int_min (pos 0) (c +ℤ pos (suc n * slope)) = credit-idles n rate slope c in
    omega (arith, ints, clamps)

pub credit_at_0 : (n rate slope : ℕ) (sends waits : Bool) (c : ℤ) → n ≡ 0
    → credit_after_bits n rate slope sends waits c ≡ c
unfolding credit_after_bits
credit_at_0 zero rate slope sends waits c e = refl
credit_at_0 (suc n) rate slope sends waits c e = absurd (omega arith)

pub credit_idles_on : (n rate slope : ℕ) (c : ℤ) → 0 < n
    → credit_after_bits n rate slope false false c ≡ int_min (pos 0) (c +ℤ pos (n * slope))
credit_idles_on zero rate slope c some = absurd (omega arith)
credit_idles_on (suc n) rate slope c some = credit-idles n rate slope c

-- the credit after some bit times, in each case of its rule
pub ruleset credits_on = (credit_at_0, credit-sends, credit-waits, credit_idles_on)

-- both credits, each by itself
pub after_bits_is : (n : ℕ) (line : Line) (waits_a waits_b : Bool) (s : Shaper)
    → after_bits n line waits_a waits_b s
    ≡ record s {
      credit_a = credit_after_bits n (bits_of s.rate) s.slope_a (does_send A line) waits_a s.credit_a;
      credit_b = credit_after_bits n (bits_of s.rate) s.slope_b (does_send B line) waits_b s.credit_b;
    }
unfolding after_bits credit_after_bits
after_bits_is zero line waits_a waits_b s = refl
after_bits_is (suc n) line waits_a waits_b s = rw (after_bits_is n line waits_a waits_b s) refl

-- before the number of bit times, rounded up, in which a credit rises to 0, it is negative
pub short_before : (credit : ℤ) (slope bits n : ℕ) → credit <ℤ pos 0 → bits * slope < unsigned_abs credit + slope → n < bits
    → (credit +ℤ pos (n * slope)) <ℤ pos 0
short_before (pos m) slope bits n below up l = absurd (omega (arith, ints, below))
short_before (negsuc m) slope bits n below up l =
    let fewer : suc n * slope ≤ bits * slope = mul-le-mul_right slope (omega arith) in
    omega (arith, ints, up, fewer)

-- the test whether a credit is negative
pub below_zero : (c : ℤ) → int_le (pos 0) c ≡ false → c <ℤ pos 0
below_zero (pos n) e = absurd (true≢false (sym (le-leb 0 n (omega arith)) ∙ e))
below_zero (negsuc n) e = omega (arith, ints)

-- a class that doesn't take its turn though it waits is short of credit
pub short_if : (waits : Bool) (c : ℤ) → (waits && int_le (pos 0) c) ≡ false → waits ≡ true → c <ℤ pos 0
short_if waits c e w =
    elim (and_cases waits (int_le (pos 0) c) e) [ inl f ↦ absurd (true≢false (sym w ∙ f)) | inr f ↦ below_zero c f ]

-- ---- one bit time

-- a credit that its class doesn't take from the line rises by no more than its slope
pub rises : (rate slope : ℕ) (waits : Bool) (c : ℤ) → credit_after rate slope false waits c ≤ℤ (c +ℤ pos slope)
rises rate slope true c = omega (arith, ints)
rises rate slope false c = omega (arith, ints, clamps)

-- nor is it below a bound that isn't above 0
pub stays_above : (rate slope least : ℕ) (waits : Bool) (c : ℤ) → pos 0 ≤ℤ (c +ℤ pos least) → pos 0 ≤ℤ (credit_after rate slope false waits c +ℤ pos least)
stays_above rate slope least true c h = omega (arith, ints, h)
stays_above rate slope least false c h = omega (arith, ints, clamps, h)
