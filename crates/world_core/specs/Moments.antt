-- The moments of a run: the network after each of its events, steps, carryings and clocks.
use Rattle.std.specs.Prelude.{◌≡◌, ℕ, suc, List, [], ◌∷◌, ◌++◌, take}
use Rattle.topology_file.specs.Plan.{Plan}
use Rattle.world_core.specs.declared.{events.WorldEvent.WorldEvent, journal.Tick.Tick}
use Rattle.world_core.specs.{World.WorldState, World.world_after, Start.world_of, Ticks.tick_events}

-- all that happens in these ticks, of which the first is tick t
abbrev pub events_from : Plan → ℕ → List Tick → List WorldEvent
events_from plan t [] = []
events_from plan t (tick ∷ ticks) = tick_events plan t tick ++ events_from plan (suc t) ticks

-- the network at a moment of a run: after the first of all that happens, as many as there are of
-- them
pub record IsMoment (plan : Plan) (ticks : List Tick) (w : WorldState) : Type 0 where
  pub count : ℕ
  pub reached : w ≡ world_after (take count (events_from plan 0 ticks)) (world_of plan)
