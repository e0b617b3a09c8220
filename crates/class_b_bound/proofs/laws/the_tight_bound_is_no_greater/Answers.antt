use Rattle.class_b_bound.proofs.BoundLemmas.{wait_no_greater, hi_no_greater}
use Rattle.class_b_bound.proofs.laws.the_tight_bound_is_no_greater.Goals as goal

pub returns-clause-wait : goal.returns-clause-wait
returns-clause-wait c = wait_no_greater

pub returns-clause-hi : goal.returns-clause-hi
returns-clause-hi c = hi_no_greater
