use Rattle.mvrp.proofs.laws.a_new_side_is_proper.Goals as goal

pub returns : goal.returns
returns c = c.a_new_side_is_proper.ensures
