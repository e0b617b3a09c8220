-- One tick of a run with a thread for each port, and what it rests on.
use Rattle.std.specs.Prelude.{◌≡◌, ◌≢◌, ◌<◌, ◌^◌, ℕ, suc, List, [], map, Some}
use Rattle.std.specs.List.{AllByRecursion}
use Rattle.srp_base.specs.declared.{numbers.NodeNo.NodeNo, numbers.EgressPort.EgressPort}
use Rattle.tree_topology.specs.{Topology.Topology, Topology.IsSound, Topology.HasPort, Topology.link_ports, PortLaws.HasPortLaws}
use Rattle.topology_file.specs.{Plan.Plan, Scenario.KeepsRules}
use Rattle.node_core.specs.declared.types.NodeStep.{NodeStep}
use Rattle.node_core.specs.State.{NodeState}
use Rattle.world_core.specs.declared.{events.WorldEvent.WorldEvent, events.WorldEvent.TheVariants.Carry, events.WorldEvent.TheVariants.Clock, journal.NodeSteps.NodeSteps, journal.Tick.Tick}
use Rattle.world_core.specs.{World.WorldState, World.CanHappen, World.IsEventInRange, World.node_at, World.world_step, World.world_after, World.replies_to, Apart.events_of, Apart.replies_of, Apart.HavePorts, Apart.HaveOwnReplies, Apart.after_own, Kept.IsKeptWorld, Ticks.script_at, Ticks.step_events, Ticks.step_replies, Ticks.steps_of, Ticks.jobs_of, Ticks.AscendByNode, Ticks.tick_events, Ticks.after_steps, Ticks.IsLegalTick, During.IsDuring, During.IsAllowed, Carrying.NothingWaits, History.HistoryState, History.acts_noted, Cursor.IsCursor}

-- what the steps of nodes rest on: ports have peers, each event keeps what every network keeps, and
-- a node makes its steps by itself
pub record StepLaws : Type 0 where
  pub ports : (tree : Topology) → IsSound tree → HasPortLaws tree
  pub event : (e : WorldEvent) (w : WorldState) → CanHappen e w → IsEventInRange e → IsKeptWorld w → IsKeptWorld (world_step e w).0
  pub one : (n : NodeNo) (made : List NodeStep) (w : WorldState) (s : NodeState) → node_at n w ≡ Some s → HaveOwnReplies made s → world_after (events_of n made) w ≡ after_own n made s w
  pub own : (n : NodeNo) (made : List NodeStep) (w : WorldState) (s : NodeState) → node_at n w ≡ Some s → HaveOwnReplies made s → replies_of made ≡ replies_to (events_of n made) w

-- what happens in a tick leaves it as it is until the clock goes on
pub record DuringLaws : Type 0 where
  pub all_stay : (tree : Topology) (t : ℕ) (es : List WorldEvent) (w : WorldState) → AllByRecursion (IsAllowed tree) es → IsDuring tree t w → IsDuring tree t (world_after es w)
  pub clock : (tree : Topology) (t : ℕ) (w : WorldState) → t < 2 ^ 61 → IsDuring tree t w → CanHappen Clock w
  pub scripted : (plan : Plan) (t : ℕ) → KeepsRules plan → AllByRecursion (IsAllowed plan.tree) (map (λ (e : ℕ × WorldEvent). e.1) (script_at plan t))
  pub carried : (plan : Plan) → KeepsRules plan → AllByRecursion (IsAllowed plan.tree) (map Carry (link_ports plan.tree))

-- The nodes of a network have made their steps of a tick: nodes ascending, each port its jobs in
-- order, with the network's answers.
pub record AreSteps (w v : WorldState) (made : List NodeSteps) : Type 0 where
  pub nodes : AscendByNode made
  pub some : AllByRecursion (λ ns. ns.steps ≢ []) made
  pub known : AllByRecursion (λ ns. HavePorts w.tree ns.node ns.steps) made
  pub jobs : (p : EgressPort) → HasPort w.tree p → steps_of p made ≡ jobs_of p w
  pub replies : step_replies made ≡ replies_to (step_events made) w
  pub after : v ≡ world_after (step_events made) w

-- Tick t of a scenario is made, and has led from the network w to v: the next tick begins with
-- nothing in an outbox, its events come from the cursor on, and who has acted is noted behind the
-- changes of the ticks before.
pub record IsTickMade (plan : Plan) (t : ℕ) (w v : WorldState) (at : ℕ) (before after : HistoryState) (tick : Tick) : Type 0 where
  pub legal : IsLegalTick plan t w tick
  pub reached : v ≡ world_after (tick_events plan t tick) w
  pub next : NothingWaits v
  pub cursor : IsCursor plan.events (suc t) at
  pub tree : after.tree ≡ plan.tree
  pub noted : after.changes ≡ acts_noted t tick.steps (after_steps plan t tick w) before.changes
