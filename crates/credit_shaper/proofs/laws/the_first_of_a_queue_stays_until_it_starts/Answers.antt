use Rattle.credit_shaper.proofs.StepLemmas.{stays_on, departs_next}
use Rattle.credit_shaper.proofs.laws.the_first_of_a_queue_stays_until_it_starts.Goals as goal

pub returns-clause-stays : goal.returns-clause-stays
returns-clause-stays c = stays_on

pub returns-clause-starts : goal.returns-clause-starts
returns-clause-starts c = departs_next
