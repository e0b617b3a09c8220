use Rattle.credit_shaper.proofs.{StepLemmas.waits_for_one, WindowLemmas.wait_at_most}
use Rattle.credit_shaper.proofs.laws.class_a_frames_wait_at_most.Goals as goal

pub returns-clause-with_credit : goal.returns-clause-with_credit
returns-clause-with_credit c = waits_for_one

pub returns-clause-in_all : goal.returns-clause-in_all
returns-clause-in_all c = wait_at_most
