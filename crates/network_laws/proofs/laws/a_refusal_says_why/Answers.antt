use Rattle.network_laws.proofs.Refusals.{refusal-says, shown-where-named}
use Rattle.network_laws.proofs.laws.a_refusal_says_why.Goals as goal

pub returns-clause-says : goal.returns-clause-says
returns-clause-says c = λ w stream l refusal e. refusal-says w stream l refusal e

pub returns-clause-exactly : goal.returns-clause-exactly
returns-clause-exactly c = λ w stream l. shown-where-named w stream l
