-- What is true of everything that leaves a port, over the trace by bit times.
use Rattle.std.specs.Prelude.{◌≡◌, ℕ, ◌+◌, ◌<◌, ◌≤◌, Bool, ◌==◌, ◌&&◌, nat_lt, nat_le, List, [], ◌∷◌, filter}
use Rattle.std.specs.List.{Contains}
use Rattle.credit_shaper.specs.declared.{shaper.Traffic.Traffic, port.Arrival.Arrival, port.PortInput.PortInput, port.Departure.Departure}
use Rattle.credit_shaper.specs.{Credit.traffic_number, Port.slopes_at, Port.arrivals_at, Trace.departure_at, Trace.port_at}

-- the departures that start before an input's end
abbrev pub sent_of : PortInput → List Departure
sent_of input = (port_at input input.end).sent

-- a frame starts in a bit time, before the input's end
abbrev pub DepartsAt : PortInput → Arrival → ℕ → Type 0
DepartsAt input x t = Contains (sent_of input) (departure_at t x)

-- the frames that wait at an input's end
abbrev pub left_of : PortInput → List Arrival
left_of input = (port_at input input.end).waiting

-- whether a departure is of a traffic
abbrev pub departs_as : Traffic → Departure → Bool
departs_as traffic d = traffic_number d.traffic == traffic_number traffic

-- a departure is that of a frame: it starts no earlier than the frame arrives, and takes its bits
pub record IsDepartureOf (x : Arrival) (d : Departure) : Type 0 where
  pub frame : d.frame ≡ x.frame
  pub traffic : d.traffic ≡ x.traffic
  pub after : x.bit ≤ d.start
  pub end : d.end ≡ d.start + x.bits

-- frames depart one after the other, in the order of these, and those that are left follow
abbrev pub DepartInOrder : List Arrival → List Departure → List Arrival → Type 0
DepartInOrder xs [] left = xs ≡ left
DepartInOrder [] (d ∷ ds) left = ⊥
DepartInOrder (x ∷ xs) (d ∷ ds) left = IsDepartureOf x d × DepartInOrder xs ds left

-- whether a departure has the line in a bit time, as a frame of a traffic
abbrev pub is_sending : Traffic → ℕ → Departure → Bool
is_sending traffic t d = departs_as traffic d && (nat_le d.start t && nat_lt t d.end)

-- two inputs have one rate, and give the same before a bit time
pub record AgreeBefore (t : ℕ) (one other : PortInput) : Type 0 where
  pub rate : one.rate ≡ other.rate
  pub slopes : (k : ℕ) → k < t → slopes_at one k ≡ slopes_at other k
  pub arrivals : (k : ℕ) → k < t → arrivals_at one.arrivals k ≡ arrivals_at other.arrivals k

-- the frames that arrive before a bit time
abbrev pub arrivals_before : List Arrival → ℕ → List Arrival
arrivals_before xs t = filter (λ x. nat_lt x.bit t) xs

-- the departures that start before a bit time
abbrev pub started_before : ℕ → List Departure → List Departure
started_before t ds = filter (λ d. nat_lt d.start t) ds
