use Rattle.std.proofs.Common.{ap, sym, subst}
use Rattle.world_core.specs.World.{Happened, WorldState}
use Rattle.srp_schedule.specs.{AreRests}
use Rattle.srp_schedule.proofs.RestLemmas.{clocked_rests}
use Rattle.srp_schedule.proofs.run.let_clocks_go_on.Goals as goal

pub returns-clause-after : goal.returns-clause-after
returns-clause-after c = ap (λ (h : Happened). h.0) (sym {A = Happened} c.in_ok-step.ensures.ok)

pub returns-clause-rests : goal.returns-clause-rests
returns-clause-rests c =
    λ rests are. subst (λ (w : WorldState). AreRests w rests) (ap (λ (h : Happened). h.0) c.in_ok-step.ensures.ok)
    (clocked_rests c.a_node_at_rest_stays_so.ensures.clock c.args.world.now rests c.keeps.ensures are)
