use Rattle.std.proofs.Common.{drop}
use Rattle.std.specs.List.{AllByRecursion}
use Rattle.node_core.specs.{Holding.states_in, Proper.IsProperNode}
use Rattle.world_core.proofs.apart.each_is_proper.Given as goal

-- where it is so of the nodes that are left, it is so of all
abbrev pub invariant-loop-node : goal.invariant-loop-node
invariant-loop-node l = AllByRecursion IsProperNode (states_in (drop l.node-index l.nodes)) → AllByRecursion IsProperNode (states_in l.nodes)
