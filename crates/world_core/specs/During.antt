-- A network during a tick of a scenario, and what may happen in it.
use Rattle.std.specs.Prelude.{◌≡◌, ◌≤◌, ◌-◌, ℕ, List, slice_get, Some}
use Rattle.tree_topology.specs.declared.{graph.Link.Link, graph.NodeKind.TheVariants.Station}
use Rattle.tree_topology.specs.{Graph.Joined, Topology.Topology, Topology.HasPort}
use Rattle.topology_file.specs.declared.entries.EventKind.{EventKind}
use Rattle.topology_file.specs.declared.entries.EventKind.TheVariants as kinds
use Rattle.mrpdu_codec.specs.Octets.{AreOctets}
use Rattle.node_core.specs.{Wires.IsShort, State.NodeState, Proper.AsksInRange}
use Rattle.world_core.specs.declared.events.WorldEvent.{WorldEvent}
use Rattle.world_core.specs.declared.events.WorldEvent.TheVariants.{Request, Port, Lose, Repeat, Forge, Carry, Clock}
use Rattle.world_core.specs.{World.WorldState, Kept.IsKeptWorld}

-- a network over this tree during tick t: it keeps what every network keeps, and every clock is at
-- t
pub record IsDuring (tree : Topology) (t : ℕ) (w : WorldState) : Type 0 where
  pub kept : IsKeptWorld w
  pub tree_is : w.tree ≡ tree
  pub clock : (x : ℕ) (s : NodeState) → slice_get w.nodes x ≡ Some s → s.clock.0 ≡ t

-- an event that a tick over this tree may have, whatever happened before in the tick: its port
-- exists, a forged PDU is of at most 1,500 octets, or it is the request of a VID or of a stream at
-- a station; the clock's ends the tick
abbrev pub IsAllowed : Topology → WorldEvent → Type 0
IsAllowed tree (Request n request) = (1 ≤ n.0) × (slice_get tree.kinds (n.0 - 1) ≡ Some Station) × AsksInRange request
IsAllowed tree (Port n port step) = HasPort tree (record { node = n; port = port })
IsAllowed tree (Lose p index) = HasPort tree p
IsAllowed tree (Repeat p index) = HasPort tree p
IsAllowed tree (Forge p index wire) = HasPort tree p × IsShort wire × AreOctets wire.octets
IsAllowed tree (Carry p) = HasPort tree p
IsAllowed tree Clock = ⊥

-- the nodes between which a PDU is lost, repeated or forged are neighbours
abbrev pub NamesNeighbours : List Link → EventKind → Type 0
NamesNeighbours links (kinds.Declare station vid) = Unit {0}
NamesNeighbours links (kinds.Withdraw station vid) = Unit {0}
NamesNeighbours links (kinds.Talk stream) = Unit {0}
NamesNeighbours links (kinds.Hush stream) = Unit {0}
NamesNeighbours links (kinds.Listen station stream) = Unit {0}
NamesNeighbours links (kinds.Unlisten station stream) = Unit {0}
NamesNeighbours links (kinds.Lose from to index) = Joined links to.0 from.0
NamesNeighbours links (kinds.Repeat from to index) = Joined links to.0 from.0
NamesNeighbours links (kinds.Forge from to index app octets) = Joined links to.0 from.0
