use Rattle.class_b_bound.proofs.BoundLemmas.{credit_tight, credit_wide}
use Rattle.class_b_bound.proofs.laws.class_b_credit_stays_within.Goals as goal

pub returns-clause-bound : goal.returns-clause-bound
returns-clause-bound c = credit_wide c.bit_laws.ensures

pub returns-clause-tight : goal.returns-clause-tight
returns-clause-tight c = credit_tight c.bit_laws.ensures

pub returns-clause-high : goal.returns-clause-high
returns-clause-high c input cap_a cap_ab t has = (credit_tight c.bit_laws.ensures input cap_a cap_ab t has).high
