use Rattle.delay_bound.proofs.WindowLemmas.{bound_on}
use Rattle.delay_bound.proofs.laws.a_bound_is_handed_on.Goals as goal

pub returns : goal.returns
returns g c = bound_on
