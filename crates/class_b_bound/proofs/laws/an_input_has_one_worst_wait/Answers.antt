use Rattle.class_b_bound.proofs.{BoundLemmas.worst_one, WaitLemmas.worst_some}
use Rattle.class_b_bound.proofs.laws.an_input_has_one_worst_wait.Goals as goal

pub returns-clause-some : goal.returns-clause-some
returns-clause-some c = worst_some

pub returns-clause-one : goal.returns-clause-one
returns-clause-one c = worst_one
