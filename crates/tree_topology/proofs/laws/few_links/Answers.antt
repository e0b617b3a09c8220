use Rattle.tree_topology.proofs.Pigeonholes.{few-neighbours, few-links}
use Rattle.tree_topology.proofs.laws.few_links.Goals as goal

pub returns-clause-node : goal.returns-clause-node
returns-clause-node c = λ count links x graph. few-neighbours count links graph x

pub returns-clause-all : goal.returns-clause-all
returns-clause-all c = λ count links graph. few-links count links graph
