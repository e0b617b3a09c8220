use Rattle.delay_bound.proofs.WindowLemmas.{groups_bring}
use Rattle.delay_bound.proofs.laws.groups_bring_no_more.Goals as goal

pub returns : goal.returns
returns g c = groups_bring
