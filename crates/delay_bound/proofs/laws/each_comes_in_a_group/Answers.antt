use Rattle.delay_bound.proofs.WindowLemmas.{each_in_group}
use Rattle.delay_bound.proofs.laws.each_comes_in_a_group.Goals as goal

pub returns : goal.returns
returns g c = each_in_group
