use Rattle.std.proofs.Common.{ℕ, suc, List, [], ◌∷◌}
use Rattle.topology_file.specs.Plan.{Plan}
use Rattle.world_core.specs.{Tick, WorldState, world_after, world_of, LeadTo, IsLegalTick, IsCanonicalTick, tick_events}
use Rattle.world_core.proofs.laws.canonical_ticks_are_legal.Goals as goal

legal_from : (plan : Plan) (t : ℕ) (w : WorldState) (ticks : List Tick) (t' : ℕ) (end : WorldState)
    → LeadTo (IsCanonicalTick plan) plan t w ticks t' end → LeadTo (IsLegalTick plan) plan t w ticks t' end
legal_from plan t w [] t' end h = h
legal_from plan t w (tick ∷ ticks) t' end h = (h.0.legal, legal_from plan (suc t) (world_after (tick_events plan t tick) w) ticks t' end h.1)

pub returns : goal.returns
returns c plan ticks end h = legal_from plan 0 (world_of plan) ticks plan.ticks end h
