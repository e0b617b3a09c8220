use Rattle.std.proofs.Common.{◌+◌, List, sym, ap, subst, ◌∙◌}
use Rattle.node_core.specs.declared.types.NodeStep.{NodeStep}
use Rattle.world_core.specs.declared.events.WorldEvent.TheVariants.{Port}
use Rattle.world_core.specs.World.{Happened}
use Rattle.srp_schedule.proofs.StepLemmas.{IsMade, one_made, job_port, read_as}
use Rattle.srp_schedule.proofs.steps.make_all.Goals as goal

pub loop-job-preserved : goal.loop-job-preserved
loop-job-preserved c =
    let jobs = c.args.jobs.now in
    let i = c.loop-job.job-index in
    let st = c.in_ok-make_step.field-0 in
    let step = c.in_ok-make_step.ensures.ok in
    let here = read_as jobs i (st.port, st.step) c.job-item.result c.in_ok-make_step.ensures.job c.job-item.is in
    let has = job_port c.args.node c.args.world.now.tree jobs i st.port st.step c.loop-job-test.true here c.requires in
    subst (IsMade c.args.node jobs (c.loop-job.job-index + 1) c.args.world.now c.make_step.new.self) (sym {A = List NodeStep} c.in_ok-push.ensures.items)
    (one_made c.args.node jobs i c.args.world.now c.loop-job.world c.make_step.new.self c.loop-job.made.items st c.loop-job-test.true here has step
    (ap (λ (h : Happened). h.0.tree) (sym {A = Happened} step) ∙ c.what_is_allowed_may_happen.ensures.tree (Port c.args.node st.port st.step) c.loop-job.world) c.loop-job.invariant)
