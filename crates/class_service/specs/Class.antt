-- What class A and class B alike have at a port: a credit, an idleSlope, frames that wait or are on
-- the line (IEEE Std 802.1Q-2018, 8.6.8.2; whole bit times own).
use Rattle.std.specs.Prelude.{◌≡◌, ℕ, suc, ◌<◌, ◌≤◌, Bool, true, false, ◌||◌, count_by, sum_by, ℤ, pos}
use Rattle.credit_shaper.specs.declared.{shaper.Traffic.Traffic, port.PortInput.PortInput}
use Rattle.credit_shaper.specs.declared.shaper.Traffic.TheVariants.{A, B, Other}
use Rattle.credit_shaper.specs.{Bounds.credit_a_at, Bounds.credit_b_at, Bounds.slope_a_at, Bounds.slope_b_at, Bounds.is_on_line, Bounds.bit_times, Steps.is_waiting}

-- a traffic has a credit: it is class A or class B
abbrev pub IsClass : Traffic → Type 0
IsClass A = Unit {0}
IsClass B = Unit {0}
IsClass Other = ⊥

-- a class's credit as a bit time begins, in units of 1/rate bit
abbrev pub credit_at : PortInput → Traffic → ℕ → ℤ
credit_at input A t = credit_a_at input t
credit_at input B t = credit_b_at input t
credit_at input Other t = pos 0

-- a class's idleSlope in a bit time, in bit/s
abbrev pub slope_at : PortInput → Traffic → ℕ → ℕ
slope_at input A t = slope_a_at input t
slope_at input B t = slope_b_at input t
slope_at input Other t = 0

-- whether a traffic is busy in a bit time: after the arrivals of that bit time and the start of a
-- frame, one of its frames is on the line or waits
abbrev pub is_busy : PortInput → Traffic → ℕ → Bool
is_busy input traffic t = is_on_line input traffic t || is_waiting input traffic t

-- it is busy in each bit time from one to before another
abbrev pub IsBusy : PortInput → Traffic → ℕ → ℕ → Type 0
IsBusy input traffic from to = (t : ℕ) → from ≤ t → t < to → is_busy input traffic t ≡ true

-- it isn't busy in the bit time just before this one
abbrev pub IsIdleBefore : PortInput → Traffic → ℕ → Type 0
IsIdleBefore input traffic t = (k : ℕ) → suc k ≡ t → is_busy input traffic k ≡ false

-- in how many bit times from one to before another a frame of it is on the line: the bits that it
-- has of the line
abbrev pub bits_in : PortInput → Traffic → ℕ → ℕ → ℕ
bits_in input traffic from to = count_by (is_on_line input traffic) (bit_times from to)

-- the sum of its idleSlope over these bit times, in units of 1/rate bit
abbrev pub area_in : PortInput → Traffic → ℕ → ℕ → ℕ
area_in input traffic from to = sum_by (slope_at input traffic) (bit_times from to)
