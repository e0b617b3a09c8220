use Rattle.std.proofs.Common.{◌∙◌}
use Rattle.srp_schedule.proofs.StepLemmas.{jobs_known}
use Rattle.srp_schedule.proofs.steps.make_steps_of.Goals as goal

pub make_all-requires : goal.make_all-requires
make_all-requires c = jobs_known c.args.world.now c.keeps.ensures c.args.number c.requires c.as_slice.result.now (c.as_slice.ensures.value ∙ c.in_ok-jobs.ensures)
