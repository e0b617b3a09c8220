-- The copies at a port that may be sent there, by a rate for each port, and when each frame is at a
-- port.
use Rattle.std.specs.Prelude.{◌≡◌, ℕ, ◌-◌, ◌*◌, ◌<◌, ◌≤◌, Bool, true, false, ◌==◌, ◌&&◌, List, filter, find, All, Option, Some, None}
use Rattle.srp_base.specs.declared.{numbers.EgressPort.EgressPort, numbers.StreamId.StreamId, bandwidth.Rate.Rate, ports.PortChange.PortChange}
use Rattle.credit_shaper.specs.declared.{shaper.Traffic.Traffic, port.PortInput.PortInput}
use Rattle.credit_shaper.specs.declared.shaper.Traffic.TheVariants.{A, B, Other}
use Rattle.tree_topology.specs.Topology.{HasPort}
use Rattle.frame_flow.specs.declared.{frame.Frame.Frame, frame.FrameCopy.FrameCopy, result.PortFlow.PortFlow, place.Place.Place}
use Rattle.frame_flow.specs.{Moments.moment_of, Force.changes_at, Force.first_slopes, Force.has_booked, Force.in_force, Copies.arriving, Flow.Setting, Flow.force_on, Flow.may_send, Flow.port_flow, Flow.port_input}
use Rattle.delay_flow.specs.Streams.{is_in_class}

-- a port with its rate
abbrev pub place_at : (EgressPort → Rate) → EgressPort → Place
place_at rate p = record { at = p; rate = rate p }

-- the copies that arrive at a port, and those of them that may be sent
abbrev pub copies_at : Setting → List PortFlow → (EgressPort → Rate) → EgressPort → List FrameCopy
copies_at s flows rate p = arriving s.tree.links s.frames s.ticks flows (place_at rate p)

abbrev pub may_go : Setting → (EgressPort → Rate) → EgressPort → FrameCopy → Bool
may_go s rate p c = may_send c (force_on (rate p) (changes_at s.changes p) c)

abbrev pub sendable_at : Setting → List PortFlow → (EgressPort → Rate) → EgressPort → List FrameCopy
sendable_at s flows rate p = filter (may_go s rate p) (copies_at s flows rate p)

-- the flow at a port, and what its shaper is given
abbrev pub flow_there : Setting → List PortFlow → (EgressPort → Rate) → EgressPort → PortFlow
flow_there s flows rate p = port_flow s flows (place_at rate p)

abbrev pub input_at : Setting → List PortFlow → (EgressPort → Rate) → EgressPort → PortInput
input_at s flows rate p = port_input s.ticks (rate p) (changes_at s.changes p) (copies_at s flows rate p)

-- the copy of a frame's number among some
abbrev pub copy_in : List FrameCopy → ℕ → Option FrameCopy
copy_in cs number = find (λ c. c.frame.number == number) cs

-- the moment at which a copy is at a port of a rate, in ps
abbrev pub moment_in : Rate → Option FrameCopy → Option ℕ
moment_in rate None = None
moment_in rate (Some c) = Some (moment_of rate c.bit)

-- the moment at which a frame is at a port, where it has a copy there that may be sent
abbrev pub there_at : Setting → List PortFlow → (EgressPort → Rate) → EgressPort → Frame → Option ℕ
there_at s flows rate p f = moment_in (rate p) (copy_in (sendable_at s flows rate p) f.number)

-- whether there is a moment
abbrev pub has_moment : Option ℕ → Bool
has_moment None = false
has_moment (Some moment) = true

-- whether it has one
abbrev pub is_there : Setting → List PortFlow → (EgressPort → Rate) → EgressPort → Frame → Bool
is_there s flows rate p f = has_moment (there_at s flows rate p f)

-- the frames of a class that have one
abbrev pub frames_there : Setting → List PortFlow → (EgressPort → Rate) → Traffic → EgressPort → List Frame
frames_there s flows rate traffic p = filter (λ f. is_in_class traffic f && is_there s flows rate p f) s.frames

-- what is in force at a port at the run's end
abbrev pub last_force : Setting → EgressPort → Option PortChange
last_force s p = in_force (s.ticks - 1) (changes_at s.changes p)

-- whether a stream is booked at a port then
abbrev pub is_booked : Setting → EgressPort → StreamId → Bool
is_booked s p stream = has_booked stream (last_force s p)

-- the slope of a class at a port then, in bit/s
abbrev pub class_slope : Traffic → Option PortChange → ℕ
class_slope A force = (first_slopes force).slope_a
class_slope B force = (first_slopes force).slope_b
class_slope Other force = 0

-- bookings and slopes by what is in force are the same as by another
pub record IsAsIn (other force : Option PortChange) : Type 0 where
  pub booked : (stream : StreamId) → has_booked stream force ≡ has_booked stream other
  pub slope_a : (first_slopes force).slope_a ≡ (first_slopes other).slope_a
  pub slope_b : (first_slopes force).slope_b ≡ (first_slopes other).slope_b

-- a run is steady for a class from a tick on: bookings and slopes at each port stay as they are at
-- its end, and no frame of the class is sent before that tick begins. A tick is 10^10 ps
pub record IsSteady (s : Setting) (traffic : Traffic) (tick : ℕ) : Type 0 where
  pub before : tick < s.ticks
  pub same : (p : EgressPort) (t : ℕ) → HasPort s.tree p → tick ≤ t → t < s.ticks
      → IsAsIn (last_force s p) (in_force t (changes_at s.changes p))
  pub frames : All (λ f. is_in_class traffic f ≡ true → tick * 10000000000 ≤ f.at.0) s.frames

-- nothing changes at a port in a tick: bookings and slopes are as in the tick before
abbrev pub ChangesNothing : Setting → EgressPort → ℕ → Type 0
ChangesNothing s p t =
    IsAsIn (in_force (t - 1) (changes_at s.changes p)) (in_force t (changes_at s.changes p))
