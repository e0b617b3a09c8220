use Rattle.world_core.proofs.EventLists.{IsSoFar}
use Rattle.world_core.proofs.world.World.run.Given as goal

abbrev pub invariant-loop-i : goal.invariant-loop-i
invariant-loop-i l = IsSoFar l.events l.i l.self l.initial.self l.replies.items
