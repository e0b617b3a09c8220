-- What a port's shaper is given, and when it is well formed.
use Rattle.std.specs.Prelude.{◌≡◌, ℕ, ◌^◌, ◌<◌, ◌≤◌, ◌⊎◌, Bool, ◌==◌, nat_le, List, [], ◌∷◌, filter, All, AllPairs, if◌then◌else◌}
use Rattle.srp_base.specs.declared.bandwidth.Rate.{Rate}
use Rattle.srp_base.specs.Bandwidth.{bits_of}
use Rattle.credit_shaper.specs.declared.{shaper.Traffic.Traffic, port.SlopeChange.SlopeChange, port.Arrival.Arrival, port.PortInput.PortInput}
use Rattle.credit_shaper.specs.Credit.{traffic_number}

-- a frame's bits are from 336 to 12,336: 42 to 1,542 octets with what surrounds it on the line
abbrev pub IsFrameSize : ℕ → Type 0
IsFrameSize bits = (336 ≤ bits) × (bits ≤ 12336)

-- one arrival isn't after another: by bit time, then by frame number
abbrev pub IsNotAfter : Arrival → Arrival → Type 0
IsNotAfter x y = (x.bit < y.bit) ⊎ ((x.bit ≡ y.bit) × (x.frame ≤ y.frame))

-- the first slope change is in force from bit time 0 on
abbrev pub BeginsAtZero : List SlopeChange → Type 0
BeginsAtZero [] = ⊥
BeginsAtZero (x ∷ xs) = x.bit ≡ 0

-- the slope changes begin at bit time 0 and ascend strictly, and each slope is below the rate
pub record AreSlopes (rate : Rate) (slopes : List SlopeChange) : Type 0 where
  pub begin : BeginsAtZero slopes
  pub ascend : AllPairs (λ x y. x.bit < y.bit) slopes
  pub below : All (λ c. (c.slope_a < bits_of rate) × (c.slope_b < bits_of rate)) slopes

-- the arrivals ascend by bit time and then by frame number, are before the end, and are of a
-- frame's size
pub record AreArrivals (end : ℕ) (arrivals : List Arrival) : Type 0 where
  pub ascend : AllPairs IsNotAfter arrivals
  pub in_time : All (λ x. x.bit < end) arrivals
  pub sizes : All (λ x. IsFrameSize x.bits) arrivals

-- what a port's run asks for of its input
pub record IsPortInput (input : PortInput) : Type 0 where
  pub slopes : AreSlopes input.rate input.slopes
  pub arrivals : AreArrivals input.end input.arrivals
  pub end : input.end ≤ 2 ^ 41

-- whether a frame is of a traffic
abbrev pub is_of : Traffic → Arrival → Bool
is_of traffic x = traffic_number x.traffic == traffic_number traffic

-- the last of the slope changes up to a bit time, or else this one
abbrev pub last_change : ℕ → SlopeChange → List SlopeChange → SlopeChange
last_change t current [] = current
last_change t current (x ∷ xs) = last_change t (if nat_le x.bit t then x else current) xs

-- no slope for either class
abbrev pub no_slopes : SlopeChange
no_slopes = record { bit = 0; slope_a = 0; slope_b = 0 }

-- the slopes in force in a bit time
abbrev pub slopes_at : PortInput → ℕ → SlopeChange
slopes_at input t = last_change t no_slopes input.slopes

-- the frames that arrive in a bit time, in order of arrival
abbrev pub arrivals_at : List Arrival → ℕ → List Arrival
arrivals_at arrivals t = filter (λ x. x.bit == t) arrivals
