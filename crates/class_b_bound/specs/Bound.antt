-- Class B's bounds by a port's rate and caps (IEEE Std 802.1Q-2018, 8.6.8.2; own).
use Rattle.std.specs.Prelude.{ℕ, ◌+◌, ◌-◌, ◌*◌, ◌/◌, ◌<◌, ◌≤◌, pos, ◌-ℤ◌, ◌≤ℤ◌}
use Rattle.std.specs.Int.{div_ceil}
use Rattle.srp_base.specs.declared.bandwidth.Rate.{Rate}
use Rattle.srp_base.specs.Bandwidth.{bits_of}
use Rattle.credit_shaper.specs.declared.port.PortInput.{PortInput}
use Rattle.credit_shaper.specs.{Port.IsPortInput, Bounds.KeepCaps, Bounds.credit_b_at}
use Rattle.class_b_bound.specs.declared.bound.BoundB.{BoundB}

-- class A's cap isn't above the cap of both classes, and that is below the rate
abbrev pub AreCaps : Rate → ℕ → ℕ → Type 0
AreCaps rate cap_a cap_ab = (cap_a ≤ cap_ab) × (cap_ab < bits_of rate)

-- an input of a port with these caps
pub record HasCaps (input : PortInput) (cap_a cap_ab : ℕ) : Type 0 where
  pub valid : IsPortInput input
  pub caps : AreCaps input.rate cap_a cap_ab
  pub slopes : KeepCaps cap_a cap_ab input.slopes

-- the wait: one frame of 12,336 bits, and what class A may take by its hiCredit, 12,336 x cap_a,
-- and its loCredit, -12,336 x rate, at the rate that its cap leaves; rounded up
abbrev pub wait_of : ℕ → ℕ → ℕ
wait_of rate cap_a = div_ceil (rate * 12336 + (12336 * cap_a + 12336 * rate)) (rate - cap_a)

-- the bound: that wait, and what class B's slope gives in it
abbrev pub bound_of : Rate → ℕ → ℕ → BoundB
bound_of rate cap_a cap_ab =
    record {
      wait = wait_of (bits_of rate) cap_a;
      hi = cap_ab * wait_of (bits_of rate) cap_a;
      lo = pos 0 -ℤ pos (12336 * bits_of rate);
    }

-- the tighter bound: behind one frame of 12,336 bits class A sends on as long as its credit lasts
abbrev pub tight_bound_of : Rate → ℕ → ℕ → BoundB
tight_bound_of rate cap_a cap_ab =
    record {
      wait = 12336 * (bits_of rate + (bits_of rate - cap_a)) / (bits_of rate - cap_a);
      hi = 2 * 12336 * cap_ab;
      lo = pos 0 -ℤ pos (12336 * bits_of rate);
    }

-- as a bit time begins class B's credit is between a bound's loCredit and hiCredit
pub record IsCreditBWithin (input : PortInput) (bound : BoundB) (t : ℕ) : Type 0 where
  pub low : bound.lo ≤ℤ credit_b_at input t
  pub high : credit_b_at input t ≤ℤ pos bound.hi
