use Rattle.tree_topology.proofs.Refusals.{accepted-refusal, refusals-same}
use Rattle.tree_topology.proofs.laws.one_refusal.Goals as goal

pub returns-clause-one : goal.returns-clause-one
returns-clause-one c = λ tree. refusals-same tree.kinds tree.links

pub returns-clause-none : goal.returns-clause-none
returns-clause-none c = λ tree. accepted-refusal tree.kinds tree.links
