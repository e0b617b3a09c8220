-- How long class B waits at a port, in the units that are printed.
use Rattle.std.specs.Prelude.{ℕ, ◌*◌}
use Rattle.std.specs.Int.{div_ceil}
use Rattle.srp_base.specs.declared.bandwidth.Rate.{Rate}
use Rattle.srp_base.specs.Bandwidth.{bits_of}

-- so many bit times of a port in µs, rounded up
abbrev pub micros_of : Rate → ℕ → ℕ
micros_of rate bits = div_ceil (bits * 1000000) (bits_of rate)
