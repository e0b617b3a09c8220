-- The copies that come to a node, each with the port that it came in by, and those of them that
-- leave by a port. No public contract names these words.
--
--   frames of the station x, by port 0 --.
--   what each port's peer sends, by k ---+--> x --> those that go by p and didn't come in by p --> in order of bit time --> p
use Rattle.std.specs.Prelude.{◌≡◌, ℕ, ◌<◌, ◌⊎◌, not, ◌==◌, ◌&&◌, nat_lt, List, [], ◌++◌, length, filter_map, flat_map, Option, Some, None, All, if◌then◌else◌}
use Rattle.std.specs.List.{range_with_len}
use Rattle.srp_base.specs.declared.{numbers.EgressPort.EgressPort, bandwidth.Rate.Rate}
use Rattle.tree_topology.specs.declared.graph.Link.{Link}
use Rattle.tree_topology.specs.{Topology.Topology, Topology.HasPort, Ports.neighbours, Ports.peer_of}
use Rattle.frame_flow.specs.declared.{frame.Frame.Frame, frame.FrameCopy.FrameCopy, frame.Route.Route, frame.Route.TheVariants.Stream, frame.Route.TheVariants.To, incoming.AtNode.AtNode, place.Place.Place, result.PortFlow.PortFlow}
use Rattle.frame_flow.specs.{Moments.bits_of_ticks, Moments.bit_from, Copies.IsKnown, Copies.Reached, Copies.arriving, Copies.flow_at, Copies.goes_by, Copies.handed_by, Copies.in_order, Copies.port_of, Copies.ports_at, Copies.sent_from, Flow.Setting, Given.IsRoute, Levels.level_at}

-- a copy at a node, and the number of the port that it came in by; 0 is none of a node's ports
pub record Incoming : Type 0 where
  pub ingress : ℕ
  pub copy : FrameCopy

-- the copy that a frame at a node gives, where its bit time is before the run's end
abbrev pub incoming_of : ℕ → Rate → ℕ → Reached → Option Incoming
incoming_of ticks rate k r =
    let bit = bit_from rate r.moment in
    if nat_lt bit (bits_of_ticks rate ticks)
    then Some (record { ingress = k; copy = record { bit = bit; frame = r.frame } })
    else None

-- the copies that come in by a node's port of a number; none where that port is left out
abbrev pub incoming_by : List Link → List Frame → ℕ → List PortFlow → AtNode → ℕ → List Incoming
incoming_by links frames ticks flows at k =
    if k == at.without.0
    then []
    else filter_map (incoming_of ticks at.rate k) (handed_by frames (flow_at flows (peer_of links (port_of at.node.0 k))))

-- the copies at a node, port by port
abbrev pub incoming_at : List Link → List Frame → ℕ → List PortFlow → AtNode → List Incoming
incoming_at links frames ticks flows at =
    filter_map (incoming_of ticks at.rate 0) (sent_from frames at.node.0)
    ++ flat_map (incoming_by links frames ticks flows at) (range_with_len 1 (length (neighbours links at.node.0)))

-- the copy that leaves by a port where one has come to its node
abbrev pub leaving_by : List Link → EgressPort → Incoming → Option FrameCopy
leaving_by links p c =
    if not (c.ingress == p.port.0) && goes_by links p c.copy.frame.route then Some c.copy else None

-- of a node's copies those that leave by a port
abbrev pub leaving : List Link → EgressPort → List Incoming → List FrameCopy
leaving links p copies = filter_map (leaving_by links p) copies

-- the station that a frame goes to; 0 where it goes wherever its stream is booked
abbrev pub station_of : Route → ℕ
station_of (Stream stream traffic) = 0
station_of (To station) = station.0

-- copies of frames of a setting; one that goes to a station goes to a node of the tree
abbrev pub AreOfSetting : Setting → List Incoming → Type 0
AreOfSetting s copies =
    All (λ c. IsKnown s.frames c.copy.frame × IsRoute s.tree c.copy.frame.route) copies

-- what is gathered at a node serves a port: it is of the port's node and rate, and nothing is left
-- out but what came in by the port itself
abbrev pub IsGatheredFor : AtNode → Place → Type 0
IsGatheredFor at place =
    (place.at.node ≡ at.node) × (place.rate ≡ at.rate) × ((at.without.0 ≡ 0) ⊎ (at.without ≡ place.at.port))

-- of a node's copies those that leave by a port are, in order, those that arrive at it, for each
-- port that they are gathered for
abbrev pub HasArriving : Setting → List PortFlow → AtNode → List Incoming → Type 0
HasArriving s flows at copies =
    (place : Place) → HasPort s.tree place.at → IsGatheredFor at place
    → in_order (leaving s.tree.links place.at copies) ≡ arriving s.tree.links s.frames s.ticks flows place

-- what sends into a node is of lower levels
abbrev pub AreSourcesBelow : Topology → ℕ → ℕ → Type 0
AreSourcesBelow tree level x = All (λ r. level_at tree (peer_of tree.links r) < level) (ports_at tree.links x)

-- a list that is kept for further ports of its node and level: it is of frames of the setting; and
-- where no port is left out, what sends into the node is of lower levels, so that the list still
-- serves when flows of this level are put in
pub record AreKept (s : Setting) (level : ℕ) (flows : List PortFlow) (at : AtNode) (copies : List Incoming) : Type 0 where
  pub frames : AreOfSetting s copies
  pub below : at.without.0 ≡ 0 → AreSourcesBelow s.tree level at.node.0
  pub serve : at.without.0 ≡ 0 → HasArriving s flows at copies
