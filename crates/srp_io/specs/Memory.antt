-- What the sources and sinks over memory are, and what one of their calls does.
use Rattle.std.specs.Prelude.{ℕ, ◌+◌, ◌-◌, ◌^◌, min, Bool, List, ◌++◌, drop, nat_eq}
use Rattle.std.specs.List.{list_any}

-- a count one higher, up to the last value of its type
abbrev pub one_more : ℕ → ℕ
one_more n = min (n + 1) (2 ^ 64 - 1)

-- a list of octets at one end, and the most octets that one call moves
pub record Pipe : Type 0 where
  pub octets : List ℕ
  pub step : ℕ

-- the same with the numbers of the calls that fail, counted from 1, the calls so far and the faults
-- so far
pub record FailingPipe : Type 0 where
  pub octets : List ℕ
  pub step : ℕ
  pub fails : List ℕ
  pub calls : ℕ
  pub faults : ℕ

-- whether the next call fails
abbrev pub next_fails : FailingPipe → Bool
next_fails p = list_any (nat_eq (one_more p.calls)) p.fails

-- the pipe after a call that fails: one more call, one more fault
abbrev pub pipe_that_failed : FailingPipe → FailingPipe
pipe_that_failed p = record p { calls = one_more p.calls; faults = one_more p.faults }

-- a source's pipe after a call that gave n octets
abbrev pub pipe_that_gave : ℕ → FailingPipe → FailingPipe
pipe_that_gave n p = record p { octets = drop n p.octets; calls = one_more p.calls }

-- a sink's pipe after a call that took these octets
abbrev pub pipe_that_took : List ℕ → FailingPipe → FailingPipe
pipe_that_took piece p = record p { octets = p.octets ++ piece; calls = one_more p.calls }
