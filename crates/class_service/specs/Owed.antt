-- What a frame's wait is owed to: the frames of its class in front of it, which arrived since the
-- class was last not busy.
use Rattle.std.specs.Prelude.{◌≡◌, ℕ, ◌+◌, ◌-◌, ◌*◌, ◌<◌, ◌≤◌, ◌⊎◌, true, nat_le, List, ◌∷◌, ◌++◌, filter, All, count_by, sum_by, if◌then◌else◌}
use Rattle.srp_base.specs.Bandwidth.{bits_of}
use Rattle.credit_shaper.specs.declared.{shaper.Traffic.Traffic, port.Arrival.Arrival, port.PortInput.PortInput}
use Rattle.credit_shaper.specs.{Port.is_of, Trace.port_at, Bounds.slope_a_at, Steps.was_on_line, Steps.bits_left, Departures.sent_of, Departures.DepartsAt, Departures.departs_as, Departures.started_before}
use Rattle.class_service.specs.{Class.slope_at, Class.IsIdleBefore, Range.HasRoom, Range.idle_of}

-- the bits of the frames of a traffic among some
abbrev pub bits_among : Traffic → List Arrival → ℕ
bits_among traffic xs = sum_by (λ x. x.bits) (filter (is_of traffic) xs)

-- the frames that arrive at a bit time or later
abbrev pub arrivals_from : List Arrival → ℕ → List Arrival
arrivals_from xs s = filter (λ x. nat_le s x.bit) xs

-- no frame of a traffic among these arrives before a bit time
abbrev pub HasNoneBefore : Traffic → ℕ → List Arrival → Type 0
HasNoneBefore traffic z xs = All (λ x. is_of traffic x ≡ true → z ≤ x.bit) xs

-- the bits of a traffic that a port has to send as a bit time begins: those of the frames that
-- wait, and those left on the line
abbrev pub bits_to_send : PortInput → Traffic → ℕ → ℕ
bits_to_send input traffic t =
    bits_among traffic (port_at input t).waiting
    + (if was_on_line input traffic t then bits_left input t else 0)

-- a frame by its place among the arrivals: some stand in front of it, and some behind it
abbrev pub HasPlace : PortInput → List Arrival → Arrival → List Arrival → Type 0
HasPlace input front x behind = input.arrivals ≡ front ++ x ∷ behind

-- how many frames of a frame's traffic start before a bit time
abbrev pub starts_before : PortInput → Arrival → ℕ → ℕ
starts_before input x t = count_by (departs_as x.traffic) (started_before t (sent_of input))

-- the frame behind these hasn't started before a bit time: no more frames of its traffic have than
-- stand in front of it. (The frames of each traffic start in order of arrival, each at most once,
-- so the place says which one is meant)
abbrev pub HasNotStarted : PortInput → List Arrival → Arrival → ℕ → Type 0
HasNotStarted input front x t = starts_before input x t ≤ count_by (is_of x.traffic) front

-- the frame behind these starts in a bit time: all of its traffic that stand in front of it have
-- started before, and no more
pub record StartsAt (input : PortInput) (front : List Arrival) (x : Arrival) (t : ℕ) : Type 0 where
  pub departs : DepartsAt input x t
  pub arrived : x.bit ≤ t
  pub turn : starts_before input x t ≡ count_by (is_of x.traffic) front

-- one slope of a class, which isn't 0, and one of class A, from one bit time to before another;
-- class B has room beside class A
pub record HasOneSlope (input : PortInput) (traffic : Traffic) (slope slope_a from to : ℕ) : Type 0 where
  pub some : 0 < slope
  pub room : HasRoom (bits_of input.rate) slope_a slope traffic
  pub own : (t : ℕ) → from ≤ t → t < to → slope_at input traffic t ≡ slope
  pub class_a : (t : ℕ) → from ≤ t → t < to → slope_a_at input t ≡ slope_a

-- the wait of the frame behind these up to a bit time is owed to what came before: the class wasn't
-- busy just before some bit time from the first on up to the frame's arrival, and since then its
-- slope has given no more than the frames in front of it take that arrived since, and what the
-- class's credit rises to
pub record IsWaitOwed (input : PortInput) (front : List Arrival) (x : Arrival) (slope slope_a from to : ℕ) : Type 0 where
  pub since : ℕ
  pub after : from ≤ since
  pub before : since ≤ x.bit
  pub idle : IsIdleBefore input x.traffic since
  pub wait : slope * (to - since)
      ≤ bits_of input.rate * bits_among x.traffic (arrivals_from front since)
      + idle_of (bits_of input.rate) slope_a x.traffic * slope

-- the frame behind these starts in time, or waits as the input ends and has not waited longer
abbrev pub StartsInTime : PortInput → List Arrival → Arrival → ℕ → ℕ → ℕ → Type 0
StartsInTime input front x slope slope_a from =
    ((t : ℕ) × StartsAt input front x t × IsWaitOwed input front x slope slope_a from t)
    ⊎ (HasNotStarted input front x input.end × IsWaitOwed input front x slope slope_a from input.end)
