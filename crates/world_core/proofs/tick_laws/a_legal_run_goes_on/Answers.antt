use Rattle.std.proofs.Common.{arith}
use Rattle.topology_file.specs.{Plan.Plan, Scenario.KeepsRules}
use Rattle.world_core.proofs.{TickRuns.TickLaws, TickRuns.some_tick, TickRuns.next_tick, TickRuns.some_run, tick_laws.a_legal_run_goes_on.Goals.After-what_is_allowed_may_happen}
use Rattle.world_core.proofs.tick_laws.a_legal_run_goes_on.Goals as goal

laws : After-what_is_allowed_may_happen → (plan : Plan) → KeepsRules plan → TickLaws plan
laws c plan rules =
    let all = c.what_is_allowed_may_happen.ensures in
    let ticks = rules.ticks.1 in
    record {
      stay = λ t es w ok run. all.all_stay plan.tree t es w ok run;
      scripted = λ t. all.scripted plan t rules;
      carried = all.carried plan rules;
      next = λ t w below run. all.next plan.tree t w below run;
      few = omega (arith, ticks);
    }

pub returns-clause-tick : goal.returns-clause-tick
returns-clause-tick c = λ plan t w rules run. some_tick plan (laws c plan rules) t w run

pub returns-clause-next : goal.returns-clause-next
returns-clause-next c = λ plan t w tick rules lt run legal. next_tick plan (laws c plan rules) t w tick lt run legal

pub returns-clause-rest : goal.returns-clause-rest
returns-clause-rest c = λ plan t w rules le run. some_run plan (laws c plan rules) t w le run
