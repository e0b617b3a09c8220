-- What the rates, classes and ranks count as.
use Rattle.std.specs.Prelude.{ℕ, ◌==◌, if◌then◌else◌, Option, Some, None}
use Rattle.srp_base.specs.declared.bandwidth.Rate.{Rate}
use Rattle.srp_base.specs.declared.bandwidth.Rate.TheVariants.{M100, G1, G10}

-- the rate of a number of Mb/s
abbrev pub rate_of_mbit : ℕ → Option Rate
rate_of_mbit n = if n == 100 then Some M100 else if n == 1000 then Some G1 else if n == 10000 then Some G10 else None

-- a rate in bit/s
abbrev pub bits_of : Rate → ℕ
bits_of M100 = 100000000
bits_of G1 = 1000000000
bits_of G10 = 10000000000

-- the time of one bit in ps
abbrev pub bit_ps_of : Rate → ℕ
bit_ps_of M100 = 10000
bit_ps_of G1 = 1000
bit_ps_of G10 = 100
