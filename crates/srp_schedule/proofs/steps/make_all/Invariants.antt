use Rattle.srp_schedule.proofs.StepLemmas.{IsMade}
use Rattle.srp_schedule.proofs.steps.make_all.Given as goal

abbrev pub invariant-loop-job : goal.invariant-loop-job
invariant-loop-job l = IsMade l.node l.jobs l.job-index l.initial.world l.world l.made.items
