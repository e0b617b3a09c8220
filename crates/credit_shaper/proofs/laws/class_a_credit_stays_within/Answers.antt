use Rattle.credit_shaper.proofs.BoundLemmas.{credit_within}
use Rattle.credit_shaper.proofs.laws.class_a_credit_stays_within.Goals as goal

pub returns : goal.returns
returns c = credit_within
