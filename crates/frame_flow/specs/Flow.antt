-- The flow of frames over a tree: one condition on all ports at once. Each port's copies are those
-- that the frames and the other ports' departures give it; its shaper is given those that it may
-- send, and their fates are what the shaper makes of them.
use Rattle.std.specs.Prelude.{◌≡◌, ℕ, Bool, false, not, ◌==◌, ◌&&◌, List, map, filter, find, Option, Some, None, if◌then◌else◌}
use Rattle.srp_base.specs.declared.{bandwidth.Rate.Rate, ports.PortChange.PortChange}
use Rattle.credit_shaper.specs.declared.{shaper.Traffic.Traffic, shaper.Traffic.TheVariants.Other, port.Arrival.Arrival, port.PortInput.PortInput, port.Departure.Departure}
use Rattle.credit_shaper.specs.Departures.{sent_of}
use Rattle.tree_topology.specs.Topology.{Topology}
use Rattle.frame_flow.specs.declared.{frame.Frame.Frame, frame.Route.Route, frame.Route.TheVariants.Stream, frame.Route.TheVariants.To, frame.FrameCopy.FrameCopy, result.Fate.Fate, result.PortFlow.PortFlow, place.Place.Place}
use Rattle.frame_flow.specs.declared.result.Fate.TheVariants.{Unbooked, NoVlan, Departed, Left}
use Rattle.frame_flow.specs.{Moments.bits_of_ticks, Moments.tick_at, Force.changes_at, Force.in_force, Force.has_booked, Force.has_vid, Force.slopes_over, Copies.all_places, Copies.arriving}

-- what a flow is asked of: a tree, the rate of each of its links, what was in force at its ports,
-- the frames, and the number of ticks
pub record Setting : Type 0 where
  pub tree : Topology
  pub rates : List Rate
  pub changes : List PortChange
  pub frames : List Frame
  pub ticks : ℕ

-- the traffic of a frame
abbrev pub traffic_of : Route → Traffic
traffic_of (Stream stream traffic) = traffic
traffic_of (To station) = Other

-- whether a frame is of a stream that isn't booked by what is in force
abbrev pub is_unbooked : Route → Option PortChange → Bool
is_unbooked (Stream stream traffic) force = not (has_booked stream force)
is_unbooked (To station) force = false

-- what is in force as a copy arrives, by the port's changes
abbrev pub force_on : Rate → List PortChange → FrameCopy → Option PortChange
force_on rate changes c = in_force (tick_at rate c.bit) changes

-- whether a copy may be sent by what is in force
abbrev pub may_send : FrameCopy → Option PortChange → Bool
may_send c force = not (is_unbooked c.frame.route force) && has_vid c.frame.vid force

-- a copy as the shaper is given it
abbrev pub arrival_of : FrameCopy → Arrival
arrival_of c =
    record { bit = c.bit; traffic = traffic_of c.frame.route; bits = c.frame.bits; frame = c.frame.number }

-- what a port's shaper is given: its slopes, and the copies that may be sent
abbrev pub port_input : ℕ → Rate → List PortChange → List FrameCopy → PortInput
port_input ticks rate changes copies =
    record {
      rate = rate;
      slopes = slopes_over rate ticks changes;
      arrivals = map arrival_of (filter (λ c. may_send c (force_on rate changes c)) copies);
      end = bits_of_ticks rate ticks;
    }

-- the fate of a frame that the shaper was given, by its departure
abbrev pub sent_fate : Option Departure → Fate
sent_fate None = Left
sent_fate (Some d) = Departed d.start d.end

-- the fate of a copy, by what is in force as it arrives and what the port sends
abbrev pub fate_of : Option PortChange → List Departure → FrameCopy → Fate
fate_of force sent c =
    if is_unbooked c.frame.route force
    then Unbooked
    else if has_vid c.frame.vid force
    then sent_fate (find (λ d. d.frame == c.frame.number) sent)
    else NoVlan

-- the fates of a port's copies, each with the frame's number
abbrev pub fates_of : Rate → List PortChange → List Departure → List FrameCopy → List (ℕ × Fate)
fates_of rate changes sent copies =
    map (λ c. (c.frame.number, fate_of (force_on rate changes c) sent c)) copies

-- the flow at a port, by its changes and the copies that arrive there
abbrev pub flow_of_copies : ℕ → Place → List PortChange → List FrameCopy → PortFlow
flow_of_copies ticks place changes copies =
    let input = port_input ticks place.rate changes copies in
    record { at = place.at; input = input; fates = fates_of place.rate changes (sent_of input) copies }

-- the flow at a port, by the flows at the ports that send into its node
abbrev pub port_flow : Setting → List PortFlow → Place → PortFlow
port_flow s flows place =
    flow_of_copies s.ticks place (changes_at s.changes place.at)
    (arriving s.tree.links s.frames s.ticks flows place)

-- the flows at all ports, link by link, are what they give one another
pub record IsFlow (s : Setting) (flows : List PortFlow) : Type 0 where
  pub each : flows ≡ map (port_flow s flows) (all_places s.tree.links s.rates)
