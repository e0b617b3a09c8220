-- The timeline of a run: what was in force at each port after the steps of each tick, as changes by
-- port and tick.
use Rattle.std.specs.Prelude.{◌≡◌, ℕ, ◌<◌, ◌≤◌, List, [], ◌∷◌, ◌++◌, length, map, take, Some, if◌then◌else◌, flat_map, slice_get, All, AllPairs}
use Rattle.std.specs.{Option.option_map_or, List.range_with_len}
use Rattle.srp_base.specs.declared.{numbers.EgressPort.EgressPort, bandwidth.Class.TheVariants.A, bandwidth.Class.TheVariants.B, ports.PortChange.PortChange}
use Rattle.tree_topology.specs.Topology.{Topology, HasPort}
use Rattle.frame_flow.specs.{Force.changes_at, Force.in_force, Copies.ports_at, Given.IsEarlier}
use Rattle.topology_file.specs.Plan.{Plan}
use Rattle.attribute_propagation.specs.Ports.{place_of}
use Rattle.node_core.specs.State.{NodeState, of_part, bookings_at, slope_at}
use Rattle.world_core.specs.declared.journal.Tick.{Tick}
use Rattle.world_core.specs.{World.WorldState, World.node_at, World.world_after, Start.world_of, Ticks.after_steps, Moments.events_from, Reservation.Reservation, Reservation.no_reservation, Reservation.said_by, Reservation.registered_vids, Reservation.is_same, Reservation.change_of}

-- ---- what is in force in a network

-- at a node's port of a place
abbrev pub node_force : ℕ → NodeState → Reservation
node_force at s =
    record {
      booked = map (λ x. x.want.stream) (bookings_at at s);
      slope_a = slope_at A at s;
      slope_b = slope_at B at s;
      vids = of_part (λ part. registered_vids part.rows) [] at s.vlans;
    }

-- at a port
abbrev pub force_at : EgressPort → WorldState → Reservation
force_at p w = option_map_or (node_force (place_of p.port)) (node_at p.node w) no_reservation

-- ---- the changes of one tick more

-- the change that a port's changes lack to say in a tick what is in force there: none where they
-- say it
abbrev pub lacking : ℕ → EgressPort → Reservation → List PortChange → List PortChange
lacking tick p force changes =
    if is_same (said_by (in_force tick changes)) force then [] else change_of tick p force ∷ []

-- a port's changes with the one that they lack
abbrev pub changes_noted : ℕ → EgressPort → Reservation → List PortChange → List PortChange
changes_noted tick p force changes = changes ++ lacking tick p force changes

-- the ports of a tree, ascending by node and port
abbrev pub tree_ports : Topology → List EgressPort
tree_ports tree = flat_map (ports_at tree.links) (range_with_len 1 (length tree.kinds))

-- the changes of all ports, each port's with the one that they lack to say in a tick what is in
-- force in a network
abbrev pub with_notes : ℕ → WorldState → List PortChange → List PortChange
with_notes tick w changes =
    flat_map (λ p. changes_noted tick p (force_at p w) (changes_at changes p)) (tree_ports w.tree)

-- changes ascend by port and tick, and are of ports of a tree, each in a tick before this one
pub record AreChanges (tree : Topology) (tick : ℕ) (changes : List PortChange) : Type 0 where
  pub ascend : AllPairs IsEarlier changes
  pub ports : All (λ c. HasPort tree c.at) changes
  pub before : All (λ c. c.tick < tick) changes

-- changes say of a port what is in force there in a tick
abbrev pub Says : ℕ → List PortChange → EgressPort → Reservation → Type 0
Says tick changes p force = said_by (in_force tick (changes_at changes p)) ≡ force

-- they say from a tick on what is in force at each port of a network
abbrev pub SaysFrom : ℕ → List PortChange → WorldState → Type 0
SaysFrom tick changes w =
    (p : EgressPort) → HasPort w.tree p → (t : ℕ) → tick ≤ t → Says t changes p (force_at p w)

-- ---- the timeline of a run

-- the network after these ticks of a scenario, from its start on
abbrev pub world_after_ticks : Plan → List Tick → WorldState
world_after_ticks plan ticks = world_after (events_from plan 0 ticks) (world_of plan)

-- the network after the events and steps of tick t, which are in force during that tick: the PDUs
-- of its ports aren't carried yet
pub record IsAfterSteps (plan : Plan) (ticks : List Tick) (t : ℕ) (w : WorldState) : Type 0 where
  pub tick : Tick
  pub at : slice_get ticks t ≡ Some tick
  pub reached : w ≡ after_steps plan t tick (world_after_ticks plan (take t ticks))

-- The timeline of ticks: its changes ascend by port and tick, are of the tree's ports and within
-- the ticks, and for each port and tick they say what is in force there after the tick's steps.
pub record IsTimelineOf (plan : Plan) (ticks : List Tick) (changes : List PortChange) : Type 0 where
  pub are : AreChanges plan.tree (length ticks) changes
  pub gives : (t : ℕ) (w : WorldState) (p : EgressPort) → IsAfterSteps plan ticks t w → HasPort plan.tree p
      → Says t changes p (force_at p w)
