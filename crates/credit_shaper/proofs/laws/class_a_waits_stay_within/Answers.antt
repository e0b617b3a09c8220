use Rattle.credit_shaper.proofs.WindowLemmas.{wait_within}
use Rattle.credit_shaper.proofs.laws.class_a_waits_stay_within.Goals as goal

pub returns : goal.returns
returns c = wait_within
