use Rattle.attribute_propagation.proofs.DirtyLemmas.{ascending-marked, ascending-cleared}
use Rattle.attribute_propagation.proofs.laws.keys_stay_ascending.Goals as goal

pub returns-clause-marked : goal.returns-clause-marked
returns-clause-marked g c = ascending-marked g.met.K.Ord.total

pub returns-clause-cleared : goal.returns-clause-cleared
returns-clause-cleared g c = ascending-cleared g.met.K.Ord.total
