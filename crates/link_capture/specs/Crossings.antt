-- What crosses a link in a run: the PDUs that its two ends send, tick by tick.
use Rattle.std.specs.Prelude.{ℕ, suc, ◌-◌, List, [], ◌∷◌, ◌++◌, map, slice_get}
use Rattle.std.specs.Option.{option_map_or}
use Rattle.srp_base.specs.declared.numbers.EgressPort.{EgressPort}
use Rattle.tree_topology.specs.Ports.{ends_of}
use Rattle.topology_file.specs.Plan.{Plan}
use Rattle.attribute_propagation.specs.Ports.{place_of}
use Rattle.node_core.specs.declared.types.Wire.{Wire}
use Rattle.node_core.specs.State.{NodeState, box_at}
use Rattle.world_core.specs.declared.journal.Tick.{Tick}
use Rattle.world_core.specs.{World.WorldState, World.outbox, World.world_after, Start.world_of, Ticks.after_steps, Ticks.tick_events}

-- a PDU on a link: the tick at whose end it is carried, the port that sent it, and the PDU
pub record Crossing : Type 0 where
  pub tick : ℕ
  pub from : EgressPort
  pub wire : Wire

-- a PDU that a port sends in a tick
abbrev pub crossing : ℕ → EgressPort → Wire → Crossing
crossing t p wire = record { tick = t; from = p; wire = wire }

-- PDUs that a port sends in a tick, in order
abbrev pub sent_by : ℕ → EgressPort → List Wire → List Crossing
sent_by t p wires = map (crossing t p) wires

-- the PDUs that are to go out from a port, among the nodes of a network
abbrev pub outbox_in : EgressPort → List NodeState → List Wire
outbox_in p nodes = option_map_or (λ s. box_at (place_of p.port) s.outboxes) (slice_get nodes (p.node.0 - 1)) []

-- what crosses from two ports, each other's peers, where the PDUs of a network are carried in tick
-- t: what the one has to send, and then what the other has
abbrev pub crossed_at : ℕ → EgressPort × EgressPort → WorldState → List Crossing
crossed_at t ends w = sent_by t ends.0 (outbox ends.0 w) ++ sent_by t ends.1 (outbox ends.1 w)

-- what crosses between them in these ticks, of which the first is tick t and begins with this
-- network: in each tick it is carried behind the steps of all nodes
abbrev pub crossed_from : Plan → EgressPort × EgressPort → ℕ → WorldState → List Tick → List Crossing
crossed_from plan ends t w [] = []
crossed_from plan ends t w (tick ∷ ticks) =
    crossed_at t ends (after_steps plan t tick w)
    ++ crossed_from plan ends (suc t) (world_after (tick_events plan t tick) w) ticks

-- What crosses the link of a number in the ticks of a scenario: tick by tick what its ends send,
-- end `a` and then end `b`, each in the order in which it sent.
abbrev pub crossings : Plan → List Tick → ℕ → List Crossing
crossings plan ticks n = crossed_from plan (ends_of plan.tree.links n) 0 (world_of plan) ticks
