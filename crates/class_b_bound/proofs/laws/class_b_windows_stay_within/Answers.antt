use Rattle.class_b_bound.specs.{bound_of, tight_bound_of}
use Rattle.class_b_bound.proofs.WindowLemmas.{window_within}
use Rattle.class_b_bound.proofs.laws.class_b_windows_stay_within.Goals as goal

pub returns-clause-bound : goal.returns-clause-bound
returns-clause-bound c input cap_a cap_ab a b has up =
    window_within input (bound_of input.rate cap_a cap_ab) a b (c.credits_go_on.ensures.class_b input)
    (λ t. c.class_b_credit_stays_within.ensures.bound input cap_a cap_ab t has) up

pub returns-clause-tight : goal.returns-clause-tight
returns-clause-tight c input cap_a cap_ab a b has up =
    window_within input (tight_bound_of input.rate cap_a cap_ab) a b (c.credits_go_on.ensures.class_b input)
    (λ t. c.class_b_credit_stays_within.ensures.tight input cap_a cap_ab t has) up
