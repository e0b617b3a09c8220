use Rattle.class_service.proofs.WaitLemmas.{wait_owed, fresh_without}
use Rattle.class_service.proofs.laws.a_wait_is_owed_to_those_in_front.Goals as goal

pub returns-clause-fresh : goal.returns-clause-fresh
returns-clause-fresh c = wait_owed c.credit_laws.ensures c.line_laws.ensures c.order_laws.ensures c.class_a_credit_stays_within.ensures

pub returns-clause-none_before : goal.returns-clause-none_before
returns-clause-none_before c input front behind x slope slope_a from u valid place class none low one =
    wait_owed c.credit_laws.ensures c.line_laws.ensures c.order_laws.ensures c.class_a_credit_stays_within.ensures input front behind x slope slope_a from u valid place class
    (fresh_without c.credit_laws.ensures c.line_laws.ensures input x.traffic from valid class none) low one
