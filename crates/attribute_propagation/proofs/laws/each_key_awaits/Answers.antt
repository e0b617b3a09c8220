use Rattle.attribute_propagation.proofs.AwaitingLemmas.{awaiting-marked, awaiting-all_marked, awaiting-cleared}
use Rattle.attribute_propagation.proofs.laws.each_key_awaits.Goals as goal

pub returns-clause-marked : goal.returns-clause-marked
returns-clause-marked g c = awaiting-marked g.met.K.Ord.total

pub returns-clause-all_marked : goal.returns-clause-all_marked
returns-clause-all_marked g c = awaiting-all_marked g.met.K.Ord.total

pub returns-clause-cleared : goal.returns-clause-cleared
returns-clause-cleared g c = awaiting-cleared g.met.K.Ord.total
