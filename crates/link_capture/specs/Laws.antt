-- What making the ticks of a scenario again rests on: laws of world_core and tree_topology, of one
-- scenario.
use Rattle.std.specs.Prelude.{◌≡◌, ◌<◌, ◌^◌, ℕ, suc, false, List, map}
use Rattle.std.specs.List.{AllByRecursion}
use Rattle.tree_topology.specs.{Topology.link_ports, PortLaws.HasPortLaws}
use Rattle.topology_file.specs.{Plan.Plan, Scenario.KeepsRules}
use Rattle.world_core.specs.declared.{events.WorldEvent.WorldEvent, journal.Tick.Tick}
use Rattle.world_core.specs.declared.events.WorldEvent.TheVariants.{Carry, Clock}
use Rattle.world_core.specs.{World.WorldState, World.CanHappen, World.CanAllHappen, World.world_after, Start.world_of, Ticks.script_at, Ticks.after_steps, Ticks.tick_events, Ticks.IsLegalTick, Carrying.NothingWaits, Carrying.has_send, During.IsDuring, During.IsAllowed}

pub record TickLaws (plan : Plan) : Type 0 where
  pub rules : KeepsRules plan
  pub ports : HasPortLaws plan.tree
  pub begins : IsDuring plan.tree 0 (world_of plan)
  pub can : (t : ℕ) (es : List WorldEvent) (w : WorldState) → AllByRecursion (IsAllowed plan.tree) es → IsDuring plan.tree t w → CanAllHappen es w
  pub stay : (t : ℕ) (es : List WorldEvent) (w : WorldState) → AllByRecursion (IsAllowed plan.tree) es → IsDuring plan.tree t w → IsDuring plan.tree t (world_after es w)
  pub clock : (t : ℕ) (w : WorldState) → t < 2 ^ 61 → IsDuring plan.tree t w → CanHappen Clock w
  pub scripted : (t : ℕ) → AllByRecursion (IsAllowed plan.tree) (map (λ (e : ℕ × WorldEvent). e.1) (script_at plan t))
  pub carried : AllByRecursion (IsAllowed plan.tree) (map Carry (link_ports plan.tree))
  pub next : (t : ℕ) (w : WorldState) (tick : Tick) → t < plan.ticks → IsDuring plan.tree t w → IsLegalTick plan t w tick → IsDuring plan.tree (suc t) (world_after (tick_events plan t tick) w)
  pub none_waits : NothingWaits (world_of plan)
  pub none_carried : (t : ℕ) (w : WorldState) (tick : Tick) → IsDuring plan.tree t w → NothingWaits w → has_send tick.steps ≡ false
      → world_after (map Carry (link_ports plan.tree)) (after_steps plan t tick w) ≡ after_steps plan t tick w
  pub all_carried : (t : ℕ) (w : WorldState) (tick : Tick) → IsDuring plan.tree t w → NothingWaits (world_after (tick_events plan t tick) w)
