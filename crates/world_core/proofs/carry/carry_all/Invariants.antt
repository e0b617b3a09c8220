use Rattle.world_core.proofs.LinksCarried.{IsCarriedTo}
use Rattle.world_core.proofs.carry.carry_all.Given as goal

abbrev pub invariant-loop-n : goal.invariant-loop-n
invariant-loop-n l = IsCarriedTo l.n l.initial.world l.world
