-- Each event of a network, and each list of events, keeps what every network keeps.
use Rattle.std.proofs.Common.{List, [], ◌∷◌}
use Rattle.std.specs.List.{AllByRecursion}
use Rattle.tree_topology.specs.{Topology.Topology, Topology.IsSound, PortLaws.HasPortLaws}
use Rattle.world_core.specs.{WorldEvent, WorldState, world_step, world_after, CanHappen, CanAllHappen, IsEventInRange, AreVlanDutiesMet, AreStreamDutiesMet, IsKeptWorld}
use Rattle.world_core.proofs.{Nodes.Base, BaseSteps.NodeLaws, BaseSteps.base_event, EventSteps.HasMarks, EventSteps.met_event, MarkEvents.marks_event, VlanSteps.VlanLaws, VlanSteps.vlan_view, VlanSteps.vlan_links, VlanSteps.vlan_facts, StreamSteps.StreamLaws, StreamSteps.stream_view, StreamSteps.stream_links, StreamSteps.stream_facts}

pub base_kept : (w : WorldState) → IsKeptWorld w → Base w
base_kept w kept = record { tree = kept.tree; many = kept.many; nodes = kept.nodes; clock = kept.clock }

pub marks_kept : (w : WorldState) → IsKeptWorld w → HasMarks w
marks_kept w kept = record { tree = kept.marks_of; of = kept.marks }

pub kept_whole : (w : WorldState) → Base w → HasMarks w → AreVlanDutiesMet w → AreStreamDutiesMet w → IsKeptWorld w
kept_whole w base of vlans streams =
    record { tree = base.tree; many = base.many; nodes = base.nodes; clock = base.clock; marks_of = of.tree; marks = of.of; duties = vlans; streams = streams }

-- the laws that this rests on, as the public laws say them
pub record KeepingLaws : Type 0 where
  pub nodes : NodeLaws
  pub vlans : VlanLaws
  pub streams : StreamLaws
  pub ports : (tree : Topology) → IsSound tree → HasPortLaws tree

module _ (laws : KeepingLaws) where
  pub kept_event : (event : WorldEvent) (w : WorldState) → CanHappen event w → IsEventInRange event → IsKeptWorld w → IsKeptWorld (world_step event w).0
  kept_event e w can fits kept =
      let base = base_kept w kept in
      let ports = laws.ports w.tree kept.tree in
      let of = marks_kept w kept in
      kept_whole (world_step e w).0 (base_event laws.nodes e w can fits base) (marks_event e w ports can of)
      (met_event vlan_view (vlan_links laws.vlans) (vlan_facts laws.vlans) e w ports can base of kept.duties)
      (met_event stream_view (stream_links laws.streams) (stream_facts laws.streams) e w ports can base of kept.streams)

  pub kept_events : (events : List WorldEvent) (w : WorldState) → CanAllHappen events w → AllByRecursion IsEventInRange events → IsKeptWorld w → IsKeptWorld (world_after events w)
  kept_events [] w can fits kept = kept
  kept_events (e ∷ events) w can fits kept = kept_events events (world_step e w).0 can.1 fits.1 (kept_event e w can.0 fits.0 kept)
