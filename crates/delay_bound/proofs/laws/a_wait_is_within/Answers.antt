use Rattle.delay_bound.proofs.WaitLemmas.{wait_within}
use Rattle.delay_bound.proofs.laws.a_wait_is_within.Goals as goal

pub returns : goal.returns
returns c = wait_within
