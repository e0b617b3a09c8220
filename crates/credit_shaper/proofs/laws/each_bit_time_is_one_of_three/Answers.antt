use Rattle.credit_shaper.proofs.StepLemmas.{one_of_three}
use Rattle.credit_shaper.proofs.laws.each_bit_time_is_one_of_three.Goals as goal

pub returns : goal.returns
returns c = one_of_three
