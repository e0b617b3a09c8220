-- What goes on at a port in each bit time: its three queues, its line and both credits (IEEE Std
-- 802.1Q-2018, 8.6.8 for the choice of the frame, 8.6.8.2 for the credits).
use Rattle.std.specs.Prelude.{ℕ, zero, suc, ◌+◌, Bool, ◌&&◌, nat_le, List, [], ◌∷◌, ◌++◌, map, find, is_some, Option, Some, None, pos, int_le, if◌then◌else◌}
use Rattle.credit_shaper.specs.declared.{shaper.Traffic.Traffic, shaper.Line.Line, shaper.Line.TheVariants.Free, shaper.Line.TheVariants.Sends, shaper.Shaper.Shaper, port.Arrival.Arrival, port.PortInput.PortInput, port.Departure.Departure, port.Departures.Departures}
use Rattle.credit_shaper.specs.declared.shaper.Traffic.TheVariants.{A, B, Other}
use Rattle.credit_shaper.specs.{Credit.after_bit, Port.is_of, Port.slopes_at, Port.arrivals_at}

-- a port at a bit time: the frames that have arrived and not started, in order of arrival; the
-- credits with the slopes in force; what the line sends or sent last, and the bit time from which
-- on it is free; the departures so far. The three queues are the waiting frames of each traffic
pub record Port : Type 0 where
  pub waiting : List Arrival
  pub shaper : Shaper
  pub line : Line
  pub free_from : ℕ
  pub sent : List Departure

-- the first frame of a traffic's queue
abbrev pub head_of : Traffic → List Arrival → Option Arrival
head_of traffic waiting = find (is_of traffic) waiting

-- whether a frame of the traffic waits
abbrev pub does_wait : Traffic → List Arrival → Bool
does_wait traffic waiting = is_some (head_of traffic waiting)

-- the waiting frames without the first of a traffic's queue
abbrev pub without_head : Traffic → List Arrival → List Arrival
without_head traffic [] = []
without_head traffic (x ∷ xs) = if is_of traffic x then xs else x ∷ without_head traffic xs

-- the traffic whose turn it is on a free line: class A where a frame of it waits and its credit
-- isn't negative, else class B alike, else the rest
abbrev pub turn_of : Shaper → List Arrival → Traffic
turn_of s waiting =
    if does_wait A waiting && int_le (pos 0) s.credit_a
    then A
    else if does_wait B waiting && int_le (pos 0) s.credit_b then B else Other

-- a frame's departure at a bit time: its last bit goes before bit time `end`
abbrev pub departure_at : ℕ → Arrival → Departure
departure_at t x = record { frame = x.frame; traffic = x.traffic; start = t; end = t + x.bits }

-- a port as this frame starts in a bit time
abbrev pub sends_frame : ℕ → Port → Arrival → Port
sends_frame t p x =
    record p {
      waiting = without_head x.traffic p.waiting;
      line = Sends x.traffic;
      free_from = t + x.bits;
      sent = p.sent ++ departure_at t x ∷ [];
    }

-- a port once a frame has started on the free line, where the one whose turn it is waits
abbrev pub starts : ℕ → Port → Option Arrival → Port
starts t p None = record p { line = Free }
starts t p (Some x) = sends_frame t p x

-- a port in a bit time, from what it was as the bit time began: first the frames that arrive join
-- their queues, and the slopes change
abbrev pub with_arrivals : PortInput → ℕ → Port → Port
with_arrivals input t p =
    let slopes = slopes_at input t in
    record p {
      waiting = p.waiting ++ arrivals_at input.arrivals t;
      shaper = record p.shaper { slope_a = slopes.slope_a; slope_b = slopes.slope_b };
    }

-- then, where the line is free, the first frame of the queue whose turn it is starts
abbrev pub with_start : ℕ → Port → Port
with_start t p =
    if nat_le p.free_from t then starts t p (head_of (turn_of p.shaper p.waiting) p.waiting) else p

-- a port after the credits' step, which ends a bit time
abbrev pub with_credits : Port → Port
with_credits p =
    record p { shaper = after_bit p.line (does_wait A p.waiting) (does_wait B p.waiting) p.shaper }

-- a port before bit time 0: nothing waits, the line is free, and both credits are 0
abbrev pub fresh_port : PortInput → Port
fresh_port input =
    record {
      waiting = [];
      shaper = record { rate = input.rate; slope_a = 0; slope_b = 0; credit_a = pos 0; credit_b = pos 0 };
      line = Free;
      free_from = 0;
      sent = [];
    }

-- the port in a bit time, from the port as the bit time begins
abbrev pub within_bit : PortInput → ℕ → Port → Port
within_bit input t p = with_start t (with_arrivals input t p)

-- the port as a bit time begins, which is as the one before it ended
unfoldable pub port_at : PortInput → ℕ → Port
port_at input zero = fresh_port input
port_at input (suc t) = with_credits (within_bit input t (port_at input t))

-- the port in a bit time: after its arrivals and its start, and before its credits' step
abbrev pub port_in : PortInput → ℕ → Port
port_in input t = within_bit input t (port_at input t)

-- what leaves the port: the frames that start before the end, and the numbers of those that wait
-- then, in order of arrival
abbrev pub departures_of : PortInput → Departures
departures_of input =
    let p = port_at input input.end in record { sent = p.sent; left = map (λ x. x.frame) p.waiting }
