use Rattle.tree_topology.proofs.{Forests.tree-from_checks, Refusals.tree-no_loop, Trees.tree-connected}
use Rattle.tree_topology.proofs.laws.one_component.Goals as goal

pub returns-clause-no_loop : goal.returns-clause-no_loop
returns-clause-no_loop c = λ count links tree. tree-no_loop count links tree

pub returns-clause-connected : goal.returns-clause-connected
returns-clause-connected c = λ count links x y tree m n. tree-connected count links tree x y m n

pub returns-clause-tree : goal.returns-clause-tree
returns-clause-tree c = λ count links graph none all. tree-from_checks count links graph none all
