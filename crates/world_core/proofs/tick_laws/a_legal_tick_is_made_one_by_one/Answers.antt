use Rattle.std.proofs.Common.{arith}
use Rattle.topology_file.specs.{Plan.Plan, Scenario.KeepsRules}
use Rattle.world_core.proofs.{TickRuns.TickLaws, TickRuns.tick_one_by_one, TickRuns.tick_legal, tick_laws.a_legal_tick_is_made_one_by_one.Goals.After-what_is_allowed_may_happen}
use Rattle.world_core.proofs.tick_laws.a_legal_tick_is_made_one_by_one.Goals as goal

laws : After-what_is_allowed_may_happen → (plan : Plan) → KeepsRules plan → TickLaws plan
laws c plan rules =
    let all = c.what_is_allowed_may_happen.ensures in
    let ticks = rules.ticks.1 in
    record {
      stay = λ t es w ok run. all.all_stay plan.tree t es w ok run;
      scripted = λ t. all.scripted plan t rules;
      carried = all.carried plan rules;
      next = λ t w below run. all.next plan.tree t w below run;
      few = omega (arith, ticks);
    }

pub returns-clause-made : goal.returns-clause-made
returns-clause-made c = λ plan t w tick rules run legal. tick_one_by_one plan (laws c plan rules) t w tick run legal

pub returns-clause-legal : goal.returns-clause-legal
returns-clause-legal c = λ plan t w tick rules run made. tick_legal plan (laws c plan rules) t w tick run made
