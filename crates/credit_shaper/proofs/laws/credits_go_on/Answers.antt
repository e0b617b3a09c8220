use Rattle.credit_shaper.proofs.StepLemmas.{credit_a-first, credit_b-first, credit_a-step, credit_b-step}
use Rattle.credit_shaper.proofs.laws.credits_go_on.Goals as goal

pub returns-clause-first_a : goal.returns-clause-first_a
returns-clause-first_a c = credit_a-first

pub returns-clause-first_b : goal.returns-clause-first_b
returns-clause-first_b c = credit_b-first

pub returns-clause-class_a : goal.returns-clause-class_a
returns-clause-class_a c = credit_a-step

pub returns-clause-class_b : goal.returns-clause-class_b
returns-clause-class_b c = credit_b-step
