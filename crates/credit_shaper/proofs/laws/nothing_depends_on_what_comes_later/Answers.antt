use Rattle.credit_shaper.proofs.DepartureLemmas.{same_before, same_departures, arrivals_agree}
use Rattle.credit_shaper.proofs.laws.nothing_depends_on_what_comes_later.Goals as goal

pub returns-clause-port : goal.returns-clause-port
returns-clause-port c = same_before

pub returns-clause-departures : goal.returns-clause-departures
returns-clause-departures c = same_departures

pub returns-clause-arrivals : goal.returns-clause-arrivals
returns-clause-arrivals c = arrivals_agree
