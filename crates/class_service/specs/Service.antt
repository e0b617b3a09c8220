-- What a class gets of the line over a window, and what it takes, against the area of its idleSlope
-- (IEEE Std 802.1Q-2018, 8.6.8.2 and Annex L in outline; for every input, own).
use Rattle.std.specs.Prelude.{◌≡◌, ℕ, ◌*◌, ◌≤◌, ℤ, pos, ◌+ℤ◌, ◌-ℤ◌, ◌≤ℤ◌}
use Rattle.srp_base.specs.Bandwidth.{bits_of}
use Rattle.credit_shaper.specs.declared.{shaper.Traffic.Traffic, shaper.Traffic.TheVariants.B, port.PortInput.PortInput}
use Rattle.class_b_bound.specs.declared.bound.BoundB.{BoundB}
use Rattle.class_service.specs.Class.{credit_at, bits_in, area_in, IsIdleBefore}

-- no credit is set back over a window: what the class has at its end is what it had, with what its
-- slope gives, less what its frames take
abbrev pub IsCreditKept : PortInput → Traffic → ℕ → ℕ → Type 0
IsCreditKept input traffic from to =
    credit_at input traffic to
    ≡ credit_at input traffic from +ℤ pos (area_in input traffic from to)
    -ℤ pos (bits_of input.rate * bits_in input traffic from to)

-- a class gets its bandwidth: the area of its slope is at most its bits, times the rate, plus
-- hiCredit minus loCredit
abbrev pub IsServed : PortInput → Traffic → ℤ → ℤ → ℕ → ℕ → Type 0
IsServed input traffic lo hi from to =
    pos (area_in input traffic from to)
    ≤ℤ (pos (bits_of input.rate * bits_in input traffic from to) +ℤ hi -ℤ lo)

-- class B gets its bandwidth, by a bound of its credit
abbrev pub IsServedB : PortInput → BoundB → ℕ → ℕ → Type 0
IsServedB input bound from to = IsServed input B bound.lo (pos bound.hi) from to

-- a class takes no more: its bits, times the rate, are at most the area of its slope plus hiCredit
-- minus loCredit
abbrev pub TakesNoMore : PortInput → Traffic → ℤ → ℤ → ℕ → ℕ → Type 0
TakesNoMore input traffic lo hi from to =
    pos (bits_of input.rate * bits_in input traffic from to)
    ≤ℤ (pos (area_in input traffic from to) +ℤ hi -ℤ lo)

-- a bit time from which on what a class does owes nothing to what was before: it has no credit,
-- owes none, and wasn't busy just before
pub record IsFresh (input : PortInput) (traffic : Traffic) (t : ℕ) : Type 0 where
  pub credit : credit_at input traffic t ≡ pos 0
  pub idle : IsIdleBefore input traffic t

-- from a fresh bit time up to another no credit is set back
pub record LosesNone (input : PortInput) (traffic : Traffic) (from to : ℕ) : Type 0 where
  pub fresh : IsFresh input traffic from
  pub kept : (t : ℕ) → from ≤ t → t ≤ to → IsCreditKept input traffic from t
