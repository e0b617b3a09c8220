use Rattle.mvrp.proofs.laws.settling_and_requests_keep_a_side_proper.Goals as goal

pub returns-clause-settle : goal.returns-clause-settle
returns-clause-settle c = c.settling_and_requests_keep_a_side_proper.ensures.settle

pub returns-clause-request : goal.returns-clause-request
returns-clause-request c = c.settling_and_requests_keep_a_side_proper.ensures.request
