-- Ticks, moments in picoseconds, and the bit times of a port. A tick is 10 ms.
use Rattle.std.specs.Prelude.{ℕ, ◌+◌, ◌-◌, ◌*◌, ◌/◌}
use Rattle.srp_base.specs.declared.bandwidth.Rate.{Rate}
use Rattle.srp_base.specs.declared.bandwidth.Rate.TheVariants.{M100, G1, G10}
use Rattle.srp_base.specs.Bandwidth.{bit_ps_of}

-- the bit times of a tick
abbrev pub tick_bits_of : Rate → ℕ
tick_bits_of M100 = 1000000
tick_bits_of G1 = 10000000
tick_bits_of G10 = 100000000

-- the bit times of so many ticks, and with it the first bit time of the tick of that number
abbrev pub bits_of_ticks : Rate → ℕ → ℕ
bits_of_ticks rate ticks = ticks * tick_bits_of rate

-- the tick in which a bit time begins
abbrev pub tick_at : Rate → ℕ → ℕ
tick_at rate bit = bit / tick_bits_of rate

-- the first bit time that begins at a moment or after it, the moment in ps
abbrev pub bit_from : Rate → ℕ → ℕ
bit_from rate moment = (moment + (bit_ps_of rate - 1)) / bit_ps_of rate

-- the moment at which a bit time begins, in ps
abbrev pub moment_of : Rate → ℕ → ℕ
moment_of rate bit = bit * bit_ps_of rate
