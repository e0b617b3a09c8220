-- The credit-based shaper of a class at a port (IEEE Std 802.1Q-2018, 8.6.8.2), in the units of
-- tc-cbs(8): slopes in kbit/s, credits in octets. idleSlope and both credits are rounded up,
-- loCredit by its amount, so that a class isn't given less than it has booked; sendSlope is
-- idleSlope less the rate, so its amount is rounded down.
use Rattle.std.specs.Prelude.{ℕ, ◌-◌, ◌*◌, ◌/◌}
use Rattle.std.specs.Int.{div_ceil}
use Rattle.srp_base.specs.declared.bandwidth.Rate.{Rate}
use Rattle.srp_base.specs.Bandwidth.{bits_of}
use Rattle.port_margins.specs.declared.cbs.Cbs.{Cbs}

-- a rate in kbit/s
abbrev pub kbit_of : Rate → ℕ
kbit_of rate = bits_of rate / 1000

-- a slope in bit/s as idleSlope in kbit/s
abbrev pub idle_slope : ℕ → ℕ
idle_slope slope = div_ceil slope 1000

-- what a credit comes to, in octets, that grows by a slope in kbit/s for so many bit times of a
-- port
abbrev pub credit_of : Rate → ℕ → ℕ → ℕ
credit_of rate slope bits = div_ceil (slope * bits) (8 * kbit_of rate)

-- The shaper of a class that has booked so many bit/s and waits for the line so many bit times at
-- most: its credit grows with idleSlope while it waits, and falls with sendSlope while a frame of
-- it is sent, the longest of which has 12,336 bits.
abbrev pub cbs_of : Rate → ℕ → ℕ → Cbs
cbs_of rate wait slope =
    record {
      idle_slope = idle_slope slope;
      send_slope = kbit_of rate - idle_slope slope;
      hi_credit = credit_of rate (idle_slope slope) wait;
      lo_credit = credit_of rate (kbit_of rate - idle_slope slope) 12336;
    }
