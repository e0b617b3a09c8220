-- One tick of the plain run, and what it rests on.
use Rattle.std.specs.Prelude.{◌≡◌, ◌<◌, ◌^◌, ℕ, suc, List, map}
use Rattle.std.specs.List.{AllByRecursion}
use Rattle.tree_topology.specs.Topology.{Topology, link_ports}
use Rattle.topology_file.specs.{Plan.Plan, Scenario.KeepsRules}
use Rattle.world_core.specs.declared.{events.WorldEvent.WorldEvent, events.WorldEvent.TheVariants.Carry, events.WorldEvent.TheVariants.Clock, journal.Tick.Tick}
use Rattle.world_core.specs.{World.WorldState, World.CanHappen, World.world_step, World.world_after, Ticks.script_at, Ticks.tick_events, Ticks.after_steps, Ticks.IsCanonicalTick, During.IsDuring, During.IsAllowed, Carrying.NothingWaits, History.HistoryState, History.acts_noted, Cursor.IsCursor}

-- what happens in a tick leaves it as it is until the clock goes on, and then the next tick begins
pub record DuringLaws : Type 0 where
  pub all_stay : (tree : Topology) (t : ℕ) (es : List WorldEvent) (w : WorldState) → AllByRecursion (IsAllowed tree) es → IsDuring tree t w → IsDuring tree t (world_after es w)
  pub clock : (tree : Topology) (t : ℕ) (w : WorldState) → t < 2 ^ 61 → IsDuring tree t w → CanHappen Clock w
  pub next : (tree : Topology) (t : ℕ) (w : WorldState) → t < 2 ^ 61 → IsDuring tree t w → IsDuring tree (suc t) (world_step Clock w).0
  pub scripted : (plan : Plan) (t : ℕ) → KeepsRules plan → AllByRecursion (IsAllowed plan.tree) (map (λ (e : ℕ × WorldEvent). e.1) (script_at plan t))
  pub carried : (plan : Plan) → KeepsRules plan → AllByRecursion (IsAllowed plan.tree) (map Carry (link_ports plan.tree))

-- Tick t of a scenario is made, and has led from the network w to v: the next tick begins with
-- nothing in an outbox, its events come from the cursor on, and who has acted is noted behind the
-- changes of the ticks before.
pub record IsTickMade (plan : Plan) (t : ℕ) (w v : WorldState) (at : ℕ) (before : HistoryState) (made : Tick × HistoryState) : Type 0 where
  pub tick : IsCanonicalTick plan t w made.0
  pub after : v ≡ world_after (tick_events plan t made.0) w
  pub during : IsDuring plan.tree (suc t) v
  pub next : NothingWaits v
  pub cursor : IsCursor plan.events (suc t) at
  pub tree : made.1.tree ≡ plan.tree
  pub noted : made.1.changes ≡ acts_noted t made.0.steps (after_steps plan t made.0 w) before.changes
