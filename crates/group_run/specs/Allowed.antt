-- What may happen within a tick, whatever happened before in it.
use Rattle.std.specs.Prelude.{◌≡◌, ℕ, List}
use Rattle.std.specs.List.{AllByRecursion}
use Rattle.tree_topology.specs.declared.graph.Link.{Link}
use Rattle.tree_topology.specs.{Graph.Joined, Topology.Topology, Topology.HasPort}
use Rattle.group_file.specs.declared.entries.GroupKind.{GroupKind}
use Rattle.group_file.specs.declared.entries.GroupKind.TheVariants as kinds
use Rattle.mmrp.specs.declared.events.GroupEvent.{GroupEvent}
use Rattle.mmrp.specs.declared.events.GroupEvent.TheVariants as events
use Rattle.mmrp.specs.Net.{NetGroups, IsStation}

-- its nodes and ports are those of this tree, a station joins and parts; the clock's event ends the
-- tick
abbrev pub IsAllowed : Topology → GroupEvent → Type 0
IsAllowed tree (events.Join n mac) = IsStation tree n
IsAllowed tree (events.Part n mac) = IsStation tree n
IsAllowed tree (events.Port p step) = HasPort tree p
IsAllowed tree (events.Lose p index) = HasPort tree p
IsAllowed tree (events.Repeat p index) = HasPort tree p
IsAllowed tree (events.Carry p) = HasPort tree p
IsAllowed tree events.Clock = ⊥

-- each of these events is
abbrev pub AreAllowed : Topology → List GroupEvent → Type 0
AreAllowed tree es = AllByRecursion (IsAllowed tree) es

-- the nodes between which a PDU is lost or comes twice are neighbours
abbrev pub NamesNeighbours : List Link → GroupKind → Type 0
NamesNeighbours links (kinds.Join station mac) = Unit {0}
NamesNeighbours links (kinds.Part station mac) = Unit {0}
NamesNeighbours links (kinds.Lose from to index) = Joined links to.0 from.0
NamesNeighbours links (kinds.Repeat from to index) = Joined links to.0 from.0

-- a network over this tree in tick t
pub record IsInTick (tree : Topology) (t : ℕ) (w : NetGroups) : Type 0 where
  pub tree_is : w.tree ≡ tree
  pub clock_is : w.clock.0 ≡ t
