use Rattle.msrp.proofs.ProperLemmas.{proper-new}
use Rattle.msrp.proofs.laws.a_new_side_is_proper.Goals as goal

pub returns : goal.returns
returns c = proper-new c.every_step_keeps_a_book.ensures.empty
