use Rattle.node_core.specs.Step.{clocked_node}
use Rattle.world_core.proofs.Happenings.{AreTicked}
use Rattle.world_core.proofs.happen.tick_each.Given as goal

abbrev pub invariant-loop-i : goal.invariant-loop-i
invariant-loop-i l = AreTicked clocked_node l.i l.fn.nodes.items l.nodes.items
