-- How long frames of a class wait at a port, and take from port to port.
use Rattle.std.specs.Prelude.{ℕ, ◌+◌, ◌-◌, ◌*◌, ◌/◌, ◌^◌, nat_lt, List, sum_by, Option, Some, None, if◌then◌else◌}
use Rattle.std.specs.Int.{div_ceil}
use Rattle.srp_base.specs.declared.bandwidth.Rate.{Rate}
use Rattle.srp_base.specs.declared.bandwidth.Class.{Class}
use Rattle.srp_base.specs.declared.bandwidth.Class.TheVariants.{A, B}
use Rattle.srp_base.specs.Bandwidth.{bits_of, bit_ps_of}
use Rattle.delay_bound.specs.declared.way.Hop.{Hop}
use Rattle.delay_bound.specs.Bounds.{second}

-- the bits of the longest frame on the line
abbrev pub longest : ℕ
longest = 12336

-- the bit times in which a class that has frames to send may gain credit before it gets the line:
-- class A behind one frame of another, class B also behind what class A sends then with its slope
abbrev pub idle_of : Class → Rate → ℕ → ℕ
idle_of A rate slope_a = longest
idle_of B rate slope_a = div_ceil (longest * (2 * bits_of rate - slope_a)) (bits_of rate - slope_a)

-- the most bit times that a frame waits at a port of a rate, with a slope of its class, behind the
-- peak of what comes there, where it has at least so many bits itself
abbrev pub wait_of : ℕ → ℕ → ℕ → ℕ → ℕ → ℕ
wait_of rate slope idle peak least = idle + (rate * peak / second - rate * least) / slope

-- how many ps two frames of a stream may have moved towards each other on their way to a port, by
-- how many they may at the port before it, and a frame's most bit times of waiting there
abbrev pub late_behind : ℕ → ℕ → Rate → Rate → ℕ
late_behind late wait behind here = late + wait * bit_ps_of behind + bit_ps_of here

-- the most ps that a stream's frame takes from its arrival at a port to the bit time after its last
-- bit, where the least frame of the stream has so many bits
abbrev pub taken_at : ℕ → Hop → ℕ
taken_at least hop = bit_ps_of hop.rate + (hop.wait + least) * bit_ps_of hop.rate

-- the most ps that a stream's frame takes from its moment to the bit time after its last bit at the
-- last of some ports
abbrev pub within_of : ℕ → List Hop → ℕ
within_of least hops = sum_by (taken_at least) hops

-- a number, where it is below 2^128
abbrev pub in_u128 : ℕ → Option ℕ
in_u128 n = if nat_lt n (2 ^ 128) then Some n else None
