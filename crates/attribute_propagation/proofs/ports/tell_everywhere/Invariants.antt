use Rattle.attribute_propagation.proofs.InPlace.{AreDone, IsToldToo}
use Rattle.attribute_propagation.proofs.ports.tell_everywhere.Given as goal

-- the sets so far are told, and the others are as they were
abbrev pub invariant-loop-place : goal.invariant-loop-place
invariant-loop-place g l = AreDone (IsToldToo g.K.Ord.cmp l.keys) 0 l.place l.fn.sets.items l.sets.items
