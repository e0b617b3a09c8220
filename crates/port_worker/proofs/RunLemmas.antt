-- A run so far, and one tick more.
use Rattle.std.proofs.Common.{◌≡◌, ℕ, suc, ◌+◌, ◌<◌, List, [], ◌∷◌, ◌++◌, sym, subst, arith}
use Rattle.srp_base.specs.declared.ports.PortChange.{PortChange}
use Rattle.topology_file.specs.declared.entries.EventEntry.{EventEntry}
use Rattle.topology_file.specs.{Plan.Plan, Scenario.KeepsRules}
use Rattle.world_core.specs.declared.journal.Tick.{Tick}
use Rattle.world_core.specs.{World.WorldState, World.world_after, Ticks.IsLegalTick, Ticks.tick_events, Ticks.after_steps, Carrying.NothingWaits, Cursor.IsCursor, History.HistoryState, History.acts_noted, NotedRuns.IsNotedRun}
use Rattle.port_worker.specs.{IsTickMade}

-- before the first tick nothing has happened
pub first_cursor : (events : List EventEntry) → IsCursor events 0 0
first_cursor events = record { within = omega arith; past = λ k e get lt. absurd (omega (arith, lt)); coming = λ k e get le. omega arith }

pub one_tick : ((plan : Plan) (t : ℕ) (ticks : List Tick) (w : WorldState) (tick : Tick) (changes : List PortChange) → KeepsRules plan → t < plan.ticks → IsNotedRun plan t ticks w changes
    → IsLegalTick plan t w tick → IsNotedRun plan (suc t) (ticks ++ tick ∷ []) (world_after (tick_events plan t tick) w) (acts_noted t tick.steps (after_steps plan t tick w) changes))
    → (plan : Plan) (t : ℕ) (ticks next : List Tick) (w v : WorldState) (tick : Tick) (before after : HistoryState) (cursor : ℕ) → KeepsRules plan → t < plan.ticks
    → IsNotedRun plan t ticks w before.changes
    → IsTickMade plan t w v cursor before after tick → next ≡ ticks ++ tick ∷ []
    → IsNotedRun plan (t + 1) next v after.changes × NothingWaits v × IsCursor plan.events (t + 1) cursor × (after.tree ≡ plan.tree)
one_tick law plan t ticks next w v tick before after cursor rules lt run made push =
    let later : suc t ≡ t + 1 = omega arith in
    let here = law plan t ticks w tick before.changes rules lt run made.legal in (
      subst (λ (k : ℕ). IsNotedRun plan k next v after.changes) later
          (subst (λ (ts : List Tick). IsNotedRun plan (suc t) ts v after.changes) (sym push)
          (subst (λ (u : WorldState). IsNotedRun plan (suc t) (ticks ++ tick ∷ []) u after.changes) (sym made.reached)
          (subst (λ (cs : List PortChange). IsNotedRun plan (suc t) (ticks ++ tick ∷ []) (world_after (tick_events plan t tick) w) cs) (sym made.noted) here))),
      made.next,
      subst (λ (k : ℕ). IsCursor plan.events k cursor) later made.cursor,
      made.tree,
    )
