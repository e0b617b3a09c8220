-- What a class's credit stays between from a bit time at which it is 0 on, by the frames and slopes
-- since (IEEE Std 802.1Q-2018, 8.6.8.2; class B's beside class A own).
use Rattle.std.specs.Prelude.{◌≡◌, ℕ, ◌+◌, ◌-◌, ◌*◌, ◌<◌, ◌≤◌, true, List, All, ℤ, pos, ◌-ℤ◌}
use Rattle.std.specs.Int.{div_ceil}
use Rattle.srp_base.specs.Bandwidth.{bits_of}
use Rattle.credit_shaper.specs.declared.{shaper.Traffic.Traffic, port.Arrival.Arrival, port.PortInput.PortInput}
use Rattle.credit_shaper.specs.declared.shaper.Traffic.TheVariants.{A, B, Other}
use Rattle.credit_shaper.specs.{Port.is_of, Bounds.slope_a_at, Bounds.slope_b_at}
use Rattle.class_service.specs.Class.{credit_at, slope_at}

-- no frame of a traffic among these is longer than so many bits
abbrev pub HasLongest : Traffic → ℕ → List Arrival → Type 0
HasLongest traffic longest xs = All (λ x. is_of traffic x ≡ true → x.bits ≤ longest) xs

-- a class's slope is at least this in each bit time from one to before another
abbrev pub HasLeastSlope : PortInput → Traffic → ℕ → ℕ → ℕ → Type 0
HasLeastSlope input traffic least from to =
    (t : ℕ) → from ≤ t → t < to → least ≤ slope_at input traffic t

-- class A's slope is at most the one and class B's at most the other in each of them
abbrev pub HaveMostSlopes : PortInput → ℕ → ℕ → ℕ → ℕ → Type 0
HaveMostSlopes input most_a most_b from to =
    (t : ℕ) → from ≤ t → t < to → (slope_a_at input t ≤ most_a) × (slope_b_at input t ≤ most_b)

-- class B has room beside class A: class A's slope is below the rate, and both together aren't
-- above it. Class A needs none
abbrev pub HasRoom : ℕ → ℕ → ℕ → Traffic → Type 0
HasRoom rate most_a most_b A = Unit {0}
HasRoom rate most_a most_b B = (most_a < rate) × (most_a + most_b ≤ rate)
HasRoom rate most_a most_b Other = ⊥

-- how many bit times of its slope a class's credit rises to: the longest frame of other traffic for
-- class A; for class B that frame, and what class A sends of the credit that it has then
abbrev pub idle_of : ℕ → ℕ → Traffic → ℕ
idle_of rate most_a A = 12336
idle_of rate most_a B = div_ceil (12336 * (2 * rate - most_a)) (rate - most_a)
idle_of rate most_a Other = 0

-- hiCredit of a class, by the greatest slopes since
abbrev pub high_of : ℕ → ℕ → ℕ → Traffic → ℤ
high_of rate most_a most_b A = pos (12336 * most_a)
high_of rate most_a most_b B = pos (most_b * idle_of rate most_a B)
high_of rate most_a most_b Other = pos 0

-- loCredit of a class, by its least slope since: what its longest frame takes
abbrev pub low_of : ℕ → ℕ → ℕ → ℤ
low_of rate least longest = pos 0 -ℤ pos ((rate - least) * longest)

-- a stretch that begins with credit 0: the class's slope is at least this in it, no frame of the
-- class is longer than so many bits, and the slopes of A and B are at most these and leave it room
pub record IsSince (input : PortInput) (traffic : Traffic) (least longest most_a most_b from to : ℕ) : Type 0 where
  pub from_zero : credit_at input traffic from ≡ pos 0
  pub frames : HasLongest traffic longest input.arrivals
  pub at_least : HasLeastSlope input traffic least from to
  pub at_most : HaveMostSlopes input most_a most_b from to
  pub room : HasRoom (bits_of input.rate) most_a most_b traffic
