-- The credit-based shaper algorithm, bit time by bit time, in units of 1/rate bit (IEEE Std
-- 802.1Q-2018, 8.6.8.2; that time goes by whole bits is this project's own).
use Rattle.std.specs.Prelude.{ℕ, zero, suc, ◌^◌, ◌<◌, Bool, true, false, ◌==◌, ℤ, pos, ◌+ℤ◌, ◌-ℤ◌, ◌≤ℤ◌}
use Rattle.std.specs.Int.{int_min}
use Rattle.srp_base.specs.Bandwidth.{bits_of}
use Rattle.credit_shaper.specs.declared.{shaper.Traffic.Traffic, shaper.Line.Line, shaper.Line.TheVariants.Free, shaper.Line.TheVariants.Sends, shaper.Shaper.Shaper}
use Rattle.credit_shaper.specs.declared.shaper.Traffic.TheVariants.{A, B, Other}

-- a number for each traffic, by which two are compared
abbrev pub traffic_number : Traffic → ℕ
traffic_number A = 0
traffic_number B = 1
traffic_number Other = 2

-- whether a frame of the traffic is on the line: `transmitting` of that traffic's queue
abbrev pub does_send : Traffic → Line → Bool
does_send traffic Free = false
does_send traffic (Sends other) = traffic_number other == traffic_number traffic

-- a class's credit after one bit time, by whether it sends and whether it waits. It changes by
-- sendSlope, idleSlope less the rate, while a frame of the class is on the line; it rises by
-- idleSlope while one waits; else what is negative rises by idleSlope up to 0, and what is positive
-- is set to 0
abbrev pub credit_after : ℕ → ℕ → Bool → Bool → ℤ → ℤ
credit_after rate slope true waits credit = credit +ℤ pos slope -ℤ pos rate
credit_after rate slope false true credit = credit +ℤ pos slope
credit_after rate slope false false credit = int_min (pos 0) (credit +ℤ pos slope)

-- a class's credit after some bit times, in all of which it sends and waits alike
unfoldable pub credit_after_bits : ℕ → ℕ → ℕ → Bool → Bool → ℤ → ℤ
credit_after_bits zero rate slope sends waits credit = credit
credit_after_bits (suc n) rate slope sends waits credit =
    credit_after rate slope sends waits (credit_after_bits n rate slope sends waits credit)

-- both credits after one bit time
abbrev pub after_bit : Line → Bool → Bool → Shaper → Shaper
after_bit line waits_a waits_b s =
    record s {
      credit_a = credit_after (bits_of s.rate) s.slope_a (does_send A line) waits_a s.credit_a;
      credit_b = credit_after (bits_of s.rate) s.slope_b (does_send B line) waits_b s.credit_b;
    }

-- both credits after some bit times, in all of which the line and the queues are alike
unfoldable pub after_bits : ℕ → Line → Bool → Bool → Shaper → Shaper
after_bits zero line waits_a waits_b s = s
after_bits (suc n) line waits_a waits_b s =
    after_bit line waits_a waits_b (after_bits n line waits_a waits_b s)

-- at most this far from 0
abbrev pub IsWithin : ℕ → ℤ → Type 0
IsWithin most credit = (pos 0 ≤ℤ (credit +ℤ pos most)) × (credit ≤ℤ pos most)

-- what a shaper's step asks for: slopes below the rate, and credits within 2^100 of 0
pub record IsInRange (s : Shaper) : Type 0 where
  pub slope_a : s.slope_a < bits_of s.rate
  pub slope_b : s.slope_b < bits_of s.rate
  pub credit_a : IsWithin (2 ^ 100) s.credit_a
  pub credit_b : IsWithin (2 ^ 100) s.credit_b
