-- Whether a run is steady: no frame of a reserved stream is sent before bookings and slopes are as
-- they stay. A tick is 10^10 ps.
use Rattle.std.specs.Prelude.{◌≡◌, ℕ, ◌+◌, ◌-◌, ◌*◌, ◌<◌, ◌==◌, Bool, true, false, not, ◌&&◌, ◌||◌, if◌then◌else◌, max, List, [], ◌∷◌, Option, None, Some, nat_le}
use Rattle.std.specs.{List.Contains, List.list_all, Cmp.Lexicographic.pointwise}
use Rattle.srp_base.specs.declared.{numbers.StreamId.StreamId, ports.PortChange.PortChange}
use Rattle.credit_shaper.specs.declared.shaper.Traffic.{Traffic}
use Rattle.credit_shaper.specs.declared.shaper.Traffic.TheVariants.{A, B, Other}
use Rattle.frame_flow.specs.declared.{frame.Frame.Frame, frame.Route.Route}
use Rattle.frame_flow.specs.{Flow.traffic_of, Force.changes_at, Force.in_force, Force.is_port}

-- whether two lists have the same streams, in the same order
abbrev pub are_same_streams : List StreamId → List StreamId → Bool
are_same_streams xs ys = pointwise (λ x y. x.0 == y.0) xs ys

-- whether a change has the bookings and the slopes that another had; none are had before the first
abbrev pub has_bookings_of : Option PortChange → PortChange → Bool
has_bookings_of None c = are_same_streams c.booked [] && (c.slope_a == 0) && (c.slope_b == 0)
has_bookings_of (Some b) c = are_same_streams c.booked b.booked && (c.slope_a == b.slope_a) && (c.slope_b == b.slope_b)

-- a change before another, where it is of the same port
abbrev pub same_port : Option PortChange → PortChange → Option PortChange
same_port None c = None
same_port (Some b) c = if is_port b.at c.at then Some b else None

-- the tick of a change, where it has other bookings or slopes than the one before it; else 0
abbrev pub booking_tick : Option PortChange → PortChange → ℕ
booking_tick before c = if has_bookings_of (same_port before c) c then 0 else c.tick

-- the tick of the last change of bookings or slopes among changes that ascend by port and tick,
-- behind one; 0 where none is such a change
abbrev pub last_booking_tick : Option PortChange → List PortChange → ℕ
last_booking_tick before [] = 0
last_booking_tick before (c ∷ cs) =
    max (booking_tick before c) (last_booking_tick (Some c) cs)

-- whether traffic is of an SR class
abbrev pub is_reserved : Traffic → Bool
is_reserved A = true
is_reserved B = true
is_reserved Other = false

-- whether a run is steady: each frame of class A or B is sent at or after the beginning of the tick
-- of that last change
abbrev pub is_steady : List PortChange → List Frame → Bool
is_steady changes frames =
    list_all (λ f. not (is_reserved (traffic_of f.route))
    || nat_le (last_booking_tick None changes * 10000000000) f.at.0) frames

-- a frame of class A or B is sent before the beginning of the tick of a change by which a port has
-- other bookings or slopes than were in force there in the tick before
pub record HasEarlyFrame (changes : List PortChange) (frames : List Frame) : Type 0 where
  pub change : PortChange
  pub listed : Contains changes change
  pub other : has_bookings_of (in_force (change.tick - 1) (changes_at changes change.at)) change ≡ false
  pub frame : Frame
  pub sent : Contains frames frame
  pub reserved : is_reserved (traffic_of frame.route) ≡ true
  pub early : frame.at.0 < change.tick * 10000000000
