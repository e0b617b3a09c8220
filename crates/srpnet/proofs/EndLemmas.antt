-- The network at the end of a run: it is the last of the run's moments, and on the tree of its start.
use Rattle.std.proofs.Common.{◌≡◌, ℕ, suc, List, [], ◌∷◌, length, sym, ap, ◌∙◌}
use Rattle.std.proofs.Math.Seq.{take-length}
use Rattle.topology_file.specs.Plan.{Plan}
use Rattle.world_core.specs.declared.{events.WorldEvent.WorldEvent, journal.Tick.Tick}
use Rattle.world_core.specs.{World.WorldState, World.world_after, Start.world_of, Ticks.LeadTo, Ticks.AreCanonicalTicks, Ticks.IsCanonicalTick, Ticks.tick_events, Moments.IsMoment, Moments.events_from}
use Rattle.world_core.proofs.Runs.{after_append}

-- ticks lead to the network after all that happens in them
ends_after : (IsTick : ℕ → WorldState → Tick → Type 0) (plan : Plan) (t t' : ℕ) (w : WorldState) (ticks : List Tick) (end : WorldState)
    → LeadTo IsTick plan t w ticks t' end → end ≡ world_after (events_from plan t ticks) w
ends_after IsTick plan t t' w [] end is = is.1
ends_after IsTick plan t t' w (tick ∷ ticks) end is =
    ends_after IsTick plan (suc t) t' (world_after (tick_events plan t tick) w) ticks end is.1
    ∙ after_append (tick_events plan t tick) (events_from plan (suc t) ticks) w

module _ (plan : Plan) (ticks : List Tick) (end : WorldState) (is : AreCanonicalTicks plan ticks end) where
  after_all : end ≡ world_after (events_from plan 0 ticks) (world_of plan)
  after_all = ends_after (IsCanonicalTick plan) plan 0 plan.ticks (world_of plan) ticks end is

  pub end_is_moment : IsMoment plan ticks end
  end_is_moment =
      let events : List WorldEvent = events_from plan 0 ticks in
      record {
        count = length events;
        reached = after_all ∙ ap (λ (es : List WorldEvent). world_after es (world_of plan)) (sym (take-length events));
      }

  pub end_on_tree : ((es : List WorldEvent) (w : WorldState) → (world_after es w).tree ≡ w.tree) → end.tree ≡ plan.tree
  end_on_tree stays = ap (λ (w : WorldState). w.tree) after_all ∙ stays (events_from plan 0 ticks) (world_of plan)
