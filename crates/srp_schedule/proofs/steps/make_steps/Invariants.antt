use Rattle.srp_schedule.specs.{AreRests}
use Rattle.srp_schedule.proofs.StepLemmas.{IsSteppedTo}
use Rattle.srp_schedule.proofs.steps.make_steps.Given as goal

abbrev pub invariant-loop-x : goal.invariant-loop-x
invariant-loop-x l = IsSteppedTo l.x l.initial.world l.world l.made.items × AreRests l.world l.rests.items
