-- The copies of frames that arrive at a port.
--
--   frames of the station p.node --------------------.
--   what leaves q, the peer of another port of p.node -+--> p: in order of bit time, ties by number
use Rattle.std.specs.Prelude.{◌≡◌, ℕ, ◌-◌, Bool, true, ◌==◌, ◌&&◌, ◌||◌, nat_le, nat_lt, List, [], ◌∷◌, ◌++◌, length, map, filter, filter_map, find, flat_map, Option, Some, None, if◌then◌else◌, slice_index_or}
use Rattle.std.specs.List.{range_with_len}
use Rattle.srp_base.specs.declared.{numbers.EgressPort.EgressPort, bandwidth.Rate.Rate, bandwidth.Rate.TheVariants.M100}
use Rattle.tree_topology.specs.declared.graph.Link.{Link}
use Rattle.tree_topology.specs.{Ports.neighbours, Ports.peer_of, Ports.ends_of, Walk.is_behind}
use Rattle.frame_flow.specs.declared.{frame.Frame.Frame, frame.Route.Route, frame.Route.TheVariants.Stream, frame.Route.TheVariants.To, frame.FrameCopy.FrameCopy, result.Fate.Fate, result.Fate.TheVariants.Departed, result.PortFlow.PortFlow, place.Place.Place}
use Rattle.frame_flow.specs.{Moments.bits_of_ticks, Moments.bit_from, Moments.moment_of, Force.is_port}

-- the two ports of a link, the end `a` first, with its rate
abbrev pub places_of_link : List Link → List Rate → ℕ → List Place
places_of_link links rates n =
    let ends = ends_of links n in
    let rate = slice_index_or rates (n - 1) M100 in
    record { at = ends.0; rate = rate } ∷ record { at = ends.1; rate = rate } ∷ []

-- all ports, link by link, with the rates of their links
abbrev pub all_places : List Link → List Rate → List Place
all_places links rates = flat_map (places_of_link links rates) (range_with_len 1 (length links))

-- a node's port of a number
abbrev pub port_of : ℕ → ℕ → EgressPort
port_of x k = record { node = record { 0 = x }; port = record { 0 = k } }

-- a node's ports
abbrev pub ports_at : List Link → ℕ → List EgressPort
ports_at links x = map (port_of x) (range_with_len 1 (length (neighbours links x)))

-- the flow at a port
abbrev pub flow_at : List PortFlow → EgressPort → Option PortFlow
flow_at flows p = find (λ x. is_port x.at p) flows

-- a frame at a port's node, and when it is there, in ps
pub record Reached : Type 0 where
  pub frame : Frame
  pub moment : ℕ

-- the frames of a station
abbrev pub sent_from : List Frame → ℕ → List Reached
sent_from frames x =
    map (λ f. record { frame = f; moment = f.at.0 }) (filter (λ f. f.from.0 == x) frames)

-- the frame of a number
abbrev pub frame_of : List Frame → ℕ → Option Frame
frame_of frames number = find (λ f. f.number == number) frames

-- a frame is the one of its number
abbrev pub IsKnown : List Frame → Frame → Type 0
IsKnown frames f = frame_of frames f.number ≡ Some f

-- a frame that there is, in a list with a moment
abbrev pub reached_at : ℕ → Option Frame → List Reached
reached_at moment None = []
reached_at moment (Some f) = record { frame = f; moment = moment } ∷ []

-- a copy that has departed reaches the next node when its last bit has gone; another never does
abbrev pub handed_on : List Frame → Rate → ℕ → Fate → List Reached
handed_on frames rate number (Departed start end) = reached_at (moment_of rate end) (frame_of frames number)
handed_on frames rate number fate = []

-- what a port hands on to the node at the far end of its link
abbrev pub handed_by : List Frame → Option PortFlow → List Reached
handed_by frames None = []
handed_by frames (Some x) = flat_map (λ e. handed_on frames x.input.rate e.0 e.1) x.fates

-- what comes to a port's node over the link of one of its ports; what comes over the port's own
-- link doesn't leave by it
abbrev pub comes_over : List Link → List Frame → List PortFlow → EgressPort → EgressPort → List Reached
comes_over links frames flows p r =
    if is_port r p then [] else handed_by frames (flow_at flows (peer_of links r))

-- the frames that reach a port's node and may leave by the port
abbrev pub frames_reaching : List Link → List Frame → List PortFlow → EgressPort → List Reached
frames_reaching links frames flows p =
    sent_from frames p.node.0 ++ flat_map (comes_over links frames flows p) (ports_at links p.node.0)

-- whether a frame at a port's node goes on by the port: a stream's by each, one to a station by the
-- port with which the path to the station begins
abbrev pub goes_by : List Link → EgressPort → Route → Bool
goes_by links p (Stream stream traffic) = true
goes_by links p (To station) = is_behind links p station.0

-- the copy that a frame at a port's node gives at the port, where its bit time is before the run's
-- end
abbrev pub copy_of : List Link → ℕ → Place → Reached → Option FrameCopy
copy_of links ticks place r =
    let bit = bit_from place.rate r.moment in
    if goes_by links place.at r.frame.route && nat_lt bit (bits_of_ticks place.rate ticks)
    then Some (record { bit = bit; frame = r.frame })
    else None

-- whether one copy isn't after another: by bit time, then by number
abbrev pub is_not_after : FrameCopy → FrameCopy → Bool
is_not_after x y = nat_lt x.bit y.bit || (x.bit == y.bit) && nat_le x.frame.number y.frame.number

-- a list in order with one copy more
abbrev pub with_copy : FrameCopy → List FrameCopy → List FrameCopy
with_copy x [] = x ∷ []
with_copy x (y ∷ ys) = if is_not_after x y then x ∷ y ∷ ys else y ∷ with_copy x ys

-- copies in order of bit time, ties by number
abbrev pub in_order : List FrameCopy → List FrameCopy
in_order [] = []
in_order (x ∷ xs) = with_copy x (in_order xs)

-- the copies that arrive at a port, in order
unfoldable pub arriving : List Link → List Frame → ℕ → List PortFlow → Place → List FrameCopy
arriving links frames ticks flows place =
    in_order (filter_map (copy_of links ticks place) (frames_reaching links frames flows place.at))
