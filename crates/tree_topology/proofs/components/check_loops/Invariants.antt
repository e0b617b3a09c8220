use Rattle.std.proofs.Common.{length, take}
use Rattle.tree_topology.proofs.ComponentSteps.{HasComponents, IsLoopFreeTo}
use Rattle.tree_topology.proofs.components.check_loops.Given as goal

abbrev pub invariant-loop-i : goal.invariant-loop-i
invariant-loop-i l =
    HasComponents (length l.nodes) (take l.i l.links) l.components.leaders.items l.components.ranks.items × IsLoopFreeTo l.links l.i
