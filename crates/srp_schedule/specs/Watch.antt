-- What one sees who watches a run: the network at the end of each tick.
use Rattle.std.specs.Prelude.{ℕ, suc, List, [], ◌∷◌, fold}
use Rattle.topology_file.specs.Plan.{Plan}
use Rattle.world_core.specs.declared.journal.Tick.{Tick}
use Rattle.world_core.specs.{World.WorldState, World.world_after, Start.world_of, Ticks.tick_events}

-- the networks at the ends of these ticks, each with its tick's number, from a network on in which
-- tick t begins
abbrev pub ends_from : Plan → ℕ → WorldState → List Tick → List (ℕ × WorldState)
ends_from plan t w [] = []
ends_from plan t w (tick ∷ ticks) =
    (t, world_after (tick_events plan t tick) w) ∷ ends_from plan (suc t) (world_after (tick_events plan t tick) w) ticks

-- those of a run
abbrev pub ends_of : Plan → List Tick → List (ℕ × WorldState)
ends_of plan ticks = ends_from plan 0 (world_of plan) ticks

-- what one is who has seen these, one after the other
abbrev pub having_seen : {S : Type 0} → (S → ℕ → WorldState → S) → S → List (ℕ × WorldState) → S
having_seen after s ends = fold (λ v end. after v end.0 end.1) s ends
