use Rattle.world_core.proofs.Happenings.{AreReadied}
use Rattle.world_core.proofs.happen.make_room.Given as goal

abbrev pub invariant-loop-i : goal.invariant-loop-i
invariant-loop-i l = AreReadied l.initial.nodes.items l.nodes.items l.i
