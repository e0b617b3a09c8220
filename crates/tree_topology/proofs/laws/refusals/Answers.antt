use Rattle.std.proofs.Common.{length}
use Rattle.tree_topology.proofs.RefusalChecks.{refusal-of, refusal-fits, refusal-none, accepted-none, graph-of}
use Rattle.tree_topology.proofs.laws.refusals.Goals as goal

pub returns-clause-gives : goal.returns-clause-gives
returns-clause-gives c = λ tree e is. refusal-of tree.kinds tree.links e is

pub returns-clause-fits : goal.returns-clause-fits
returns-clause-fits c = λ tree e r m. refusal-fits tree.kinds tree.links e r m

pub returns-clause-accepted : goal.returns-clause-accepted
returns-clause-accepted c =
    λ tree. (accepted-none tree.kinds tree.links, refusal-none tree.kinds tree.links)

pub returns-clause-graph : goal.returns-clause-graph
returns-clause-graph c = λ tree known self second. graph-of (length tree.kinds) tree.links known self second
