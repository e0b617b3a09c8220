use Rattle.wishes.proofs.WithinLemmas.{missing, printed}
use Rattle.wishes.proofs.laws.within_is_what_delays_prints.Goals as goal

pub returns-clause-printed : goal.returns-clause-printed
returns-clause-printed c = printed

pub returns-clause-missing : goal.returns-clause-missing
returns-clause-missing c = missing
