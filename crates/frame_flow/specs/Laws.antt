-- What is true of every flow.
use Rattle.std.specs.Prelude.{◌≡◌, ◌≢◌, ℕ, ◌+◌, ◌<◌, ◌≤◌, ◌==◌, List, [], ◌∷◌, map, filter, filter_map, All, AllPairs}
use Rattle.credit_shaper.specs.declared.{shaper.Traffic.Traffic, port.Departure.Departure, port.PortInput.PortInput, port.SlopeChange.SlopeChange}
use Rattle.credit_shaper.specs.{Port.IsNotAfter, Port.is_of, Departures.sent_of, Departures.left_of, Departures.departs_as, Departures.DepartInOrder, Bounds.KeepCaps}
use Rattle.frame_flow.specs.declared.{result.Fate.Fate, result.Fate.TheVariants.Departed, result.PortFlow.PortFlow, place.Place.Place, frame.FrameCopy.FrameCopy}
use Rattle.std.specs.Prelude.{Option}
use Rattle.srp_base.specs.declared.{numbers.EgressPort.EgressPort, numbers.StreamId.StreamId, ports.PortChange.PortChange}
use Rattle.frame_flow.specs.{Force.changes_at, Force.first_slopes, Force.has_booked, Force.has_vid, Force.in_force, Copies.arriving, Copies.copy_of, Copies.frames_reaching, Flow.Setting}

-- the numbers of the copies that arrive at a port, in order
abbrev pub arriving_numbers : Setting → List PortFlow → Place → List ℕ
arriving_numbers s flows place = map (λ c. c.frame.number) (arriving s.tree.links s.frames s.ticks flows place)

-- the numbers of the copies that have a fate at a port, in order
abbrev pub fate_numbers : PortFlow → List ℕ
fate_numbers x = map (λ e. e.0) x.fates

-- no number stands twice
abbrev pub AreDifferent : List ℕ → Type 0
AreDifferent = AllPairs (λ a b. a ≢ b)

-- a port's departures of a frame's number
abbrev pub departures_numbered : PortInput → ℕ → List Departure
departures_numbered input number = filter (λ d. d.frame == number) (sent_of input)

-- there is one departure of this number, with this start and this end
abbrev pub DepartsOnce : PortInput → ℕ → ℕ → ℕ → Type 0
DepartsOnce input number start end =
    (d : Departure) × (departures_numbered input number ≡ d ∷ []) × (d.start ≡ start) × (d.end ≡ end)

-- a copy departs once where that is its fate, and else never
abbrev pub IsOutcome : PortInput → ℕ → Fate → Type 0
IsOutcome input number (Departed start end) = DepartsOnce input number start end
IsOutcome input number fate = departures_numbered input number ≡ []

-- at a port each copy that has a fate departs as its fate says
abbrev pub HasOutcomes : PortFlow → Type 0
HasOutcomes x = All (λ e. IsOutcome x.input e.0 e.1) x.fates

-- a port's copies of each traffic depart in order of arrival, ties by number, and those left follow
pub record DepartsByArrival (x : PortFlow) : Type 0 where
  pub arrivals : AllPairs IsNotAfter x.input.arrivals
  pub departures : (traffic : Traffic) → DepartInOrder (filter (is_of traffic) x.input.arrivals)
      (filter (departs_as traffic) (sent_of x.input)) (filter (is_of traffic) (left_of x.input))

-- slopes are those of what is in force: none where nothing is
abbrev pub HasSlopes : SlopeChange → Option PortChange → Type 0
HasSlopes e force = (e.slope_a ≡ (first_slopes force).slope_a) × (e.slope_b ≡ (first_slopes force).slope_b)

-- the copies that come to a port, in no order: those of its station's frames, and those that the
-- other ports' departures give
abbrev pub coming : Setting → List PortFlow → Place → List FrameCopy
coming s flows place =
    filter_map (copy_of s.tree.links s.ticks place) (frames_reaching s.tree.links s.frames flows place.at)

-- each slope of class A is at most the cap of its port
abbrev pub KeepsCapsA : (EgressPort → ℕ) → List PortChange → Type 0
KeepsCapsA cap changes = All (λ c. c.slope_a ≤ cap c.at) changes

-- and both slopes together are at most another
abbrev pub KeepsCaps : (EgressPort → ℕ) → (EgressPort → ℕ) → List PortChange → Type 0
KeepsCaps cap_a cap_ab changes =
    All (λ c. (c.slope_a ≤ cap_a c.at) × (c.slope_a + c.slope_b ≤ cap_ab c.at)) changes

-- the slopes that a port's shaper is given keep the port's caps
abbrev pub HasCaps : (EgressPort → ℕ) → (EgressPort → ℕ) → PortFlow → Type 0
HasCaps cap_a cap_ab x = KeepCaps (cap_a x.at) (cap_ab x.at) x.input.slopes

-- the same is in force by both: streams, VIDs and slopes
pub record IsSameForce (one other : Option PortChange) : Type 0 where
  pub booked : (stream : StreamId) → has_booked stream one ≡ has_booked stream other
  pub vids : (vid : ℕ) → has_vid vid one ≡ has_vid vid other
  pub slope_a : (first_slopes one).slope_a ≡ (first_slopes other).slope_a
  pub slope_b : (first_slopes one).slope_b ≡ (first_slopes other).slope_b

-- two lists of changes say the same of a port in each of so many ticks, however often they say it
abbrev pub SayTheSame : ℕ → List PortChange → List PortChange → EgressPort → Type 0
SayTheSame ticks one other p =
    (t : ℕ) → t < ticks → IsSameForce (in_force t (changes_at one p)) (in_force t (changes_at other p))
