-- What class A's credit stays between, and what class A takes of the line in a window (IEEE Std
-- 802.1Q-2018, 8.6.8.2 and Annex L in outline; with bounds for every input, own).
use Rattle.std.specs.Prelude.{◌≡◌, ℕ, ◌+◌, ◌-◌, ◌*◌, ◌<◌, ◌≤◌, max, Bool, true, false, List, [], ◌∷◌, All, count_by, sum_by, ℤ, pos, ◌+ℤ◌, ◌-ℤ◌, ◌≤ℤ◌}
use Rattle.std.specs.List.{range_with_len}
use Rattle.srp_base.specs.Bandwidth.{bits_of}
use Rattle.credit_shaper.specs.declared.{shaper.Traffic.Traffic, shaper.Traffic.TheVariants.A, port.SlopeChange.SlopeChange, port.PortInput.PortInput}
use Rattle.credit_shaper.specs.{Credit.does_send, Port.slopes_at, Trace.does_wait, Trace.port_at, Trace.port_in}

-- class A's credit as a bit time begins
abbrev pub credit_a_at : PortInput → ℕ → ℤ
credit_a_at input t = (port_at input t).shaper.credit_a

-- idleSlope of class A in a bit time
abbrev pub slope_a_at : PortInput → ℕ → ℕ
slope_a_at input t = (slopes_at input t).slope_a

-- class B's credit as a bit time begins
abbrev pub credit_b_at : PortInput → ℕ → ℤ
credit_b_at input t = (port_at input t).shaper.credit_b

-- idleSlope of class B in a bit time
abbrev pub slope_b_at : PortInput → ℕ → ℕ
slope_b_at input t = (slopes_at input t).slope_b

-- whether a frame of a traffic is on the line in a bit time
abbrev pub is_on_line : PortInput → Traffic → ℕ → Bool
is_on_line input traffic t = does_send traffic (port_in input t).line

-- the greatest idleSlope of class A of some changes
abbrev pub greatest_slope_a : List SlopeChange → ℕ
greatest_slope_a [] = 0
greatest_slope_a (x ∷ xs) = max x.slope_a (greatest_slope_a xs)

-- hiCredit: what the greatest slope gives over the longest frame
abbrev pub hi_credit : ℕ → ℤ
hi_credit most = pos (12336 * most)

-- loCredit: what the longest frame takes, at sendSlope with the least slope
abbrev pub lo_credit : ℕ → ℕ → ℤ
lo_credit rate least = pos (12336 * least) -ℤ pos (12336 * rate)

-- between two bit times the slope of class A is between these
abbrev pub HasSlopesA : PortInput → ℕ → ℕ → ℕ → ℕ → Type 0
HasSlopesA input least most from to =
    (t : ℕ) → from ≤ t → t < to → (least ≤ slope_a_at input t) × (slope_a_at input t ≤ most)

-- from a bit time at which class A's credit is 0 on, at least for that one, its slope stays between
-- these
pub record IsStretch (input : PortInput) (least most from to : ℕ) : Type 0 where
  pub some : from < to
  pub from_zero : credit_a_at input from ≡ pos 0
  pub slopes : HasSlopesA input least most from to

-- as a bit time begins class A's credit is between loCredit and hiCredit for slopes between these
pub record IsCreditAWithin (input : PortInput) (least most t : ℕ) : Type 0 where
  pub low : lo_credit (bits_of input.rate) least ≤ℤ credit_a_at input t
  pub high : credit_a_at input t ≤ℤ hi_credit most

-- the bit times from one to before another
abbrev pub bit_times : ℕ → ℕ → List ℕ
bit_times from to = range_with_len from (to - from)

-- how many of them have a class A frame on the line
abbrev pub bits_a : PortInput → ℕ → ℕ → ℕ
bits_a input from to = count_by (is_on_line input A) (bit_times from to)

-- the sum of class A's idleSlope over them
abbrev pub area_a : PortInput → ℕ → ℕ → ℕ
area_a input from to = sum_by (slope_a_at input) (bit_times from to)

-- a window's class A bits, times the rate, stay within the area of idleSlope plus hiCredit minus
-- loCredit
abbrev pub IsWindowAWithin : PortInput → ℕ → ℕ → ℕ → ℕ → Type 0
IsWindowAWithin input least most from to =
    pos (bits_of input.rate * bits_a input from to)
    ≤ℤ (pos (area_a input from to) +ℤ hi_credit most -ℤ lo_credit (bits_of input.rate) least)

-- in each bit time from one to before another frames of class A wait, and none is on the line
abbrev pub DoesWaitA : PortInput → ℕ → ℕ → Type 0
DoesWaitA input from to =
    (t : ℕ) → from ≤ t → t < to
    → (does_wait A (port_in input t).waiting ≡ true) × (is_on_line input A t ≡ false)

-- a wait of class A takes no more than hiCredit minus loCredit of idleSlope
abbrev pub IsWaitAWithin : PortInput → ℕ → ℕ → ℕ → ℕ → Type 0
IsWaitAWithin input least most from to =
    DoesWaitA input from to
    → pos (area_a input from to) ≤ℤ (hi_credit most -ℤ lo_credit (bits_of input.rate) least)

-- no slope of class A among these changes is above the one number, and no two slopes together are
-- above the other
abbrev pub KeepCaps : ℕ → ℕ → List SlopeChange → Type 0
KeepCaps cap_a cap_ab slopes =
    All (λ c. (c.slope_a ≤ cap_a) × (c.slope_a + c.slope_b ≤ cap_ab)) slopes

-- the slopes in force in a bit time are within these caps
abbrev pub AreSlopesWithin : PortInput → ℕ → ℕ → ℕ → Type 0
AreSlopesWithin input cap_a cap_ab t =
    (slope_a_at input t ≤ cap_a) × (slope_a_at input t + slope_b_at input t ≤ cap_ab)
