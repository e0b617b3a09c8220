-- What class B takes of the line in a window, and what its slope gives there.
use Rattle.std.specs.Prelude.{ℕ, ◌*◌, count_by, sum_by, pos, ◌+ℤ◌, ◌-ℤ◌, ◌≤ℤ◌}
use Rattle.srp_base.specs.Bandwidth.{bits_of}
use Rattle.credit_shaper.specs.declared.{shaper.Traffic.TheVariants.B, port.PortInput.PortInput}
use Rattle.credit_shaper.specs.Bounds.{bit_times, is_on_line, slope_b_at}
use Rattle.class_b_bound.specs.declared.{bound.BoundB.BoundB, window.WindowB.WindowB}

-- how many bit times from one to before another have a class B frame on the line
abbrev pub bits_b : PortInput → ℕ → ℕ → ℕ
bits_b input from to = count_by (is_on_line input B) (bit_times from to)

-- the sum of class B's idleSlope over them
abbrev pub area_b : PortInput → ℕ → ℕ → ℕ
area_b input from to = sum_by (slope_b_at input) (bit_times from to)

-- both
abbrev pub window_of : PortInput → ℕ → ℕ → WindowB
window_of input from to = record { bits = bits_b input from to; area = area_b input from to }

-- a window's class B bits, times the rate, stay within the area of idleSlope plus hiCredit minus
-- loCredit
abbrev pub IsWindowBWithin : PortInput → BoundB → ℕ → ℕ → Type 0
IsWindowBWithin input bound from to =
    pos (bits_of input.rate * bits_b input from to)
    ≤ℤ (pos (area_b input from to) +ℤ pos bound.hi -ℤ bound.lo)
