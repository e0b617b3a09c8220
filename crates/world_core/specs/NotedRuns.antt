-- A legal run up to a tick, with what its ticks have noted so far.
use Rattle.std.specs.Prelude.{◌≡◌, ℕ, List, length}
use Rattle.srp_base.specs.declared.ports.PortChange.{PortChange}
use Rattle.topology_file.specs.Plan.{Plan}
use Rattle.world_core.specs.declared.journal.Tick.{Tick}
use Rattle.world_core.specs.{World.WorldState, Start.world_of, Ticks.IsLegalTick, Ticks.LeadTo, During.IsDuring, Timeline.SaysFrom, Timeline.world_after_ticks, Timeline.IsTimelineOf}

-- The ticks before tick t lead legally from a scenario's start to a network, which is as they leave
-- it; the changes are their timeline, and say what is in force now.
pub record IsNotedRun (plan : Plan) (t : ℕ) (ticks : List Tick) (w : WorldState) (changes : List PortChange) : Type 0 where
  pub leads : LeadTo (IsLegalTick plan) plan 0 (world_of plan) ticks t w
  pub during : IsDuring plan.tree t w
  pub many : length ticks ≡ t
  pub reached : w ≡ world_after_ticks plan ticks
  pub timeline : IsTimelineOf plan ticks changes
  pub says : SaysFrom t changes w
