use Rattle.attribute_propagation.proofs.InPlace.{AreDone, IsTold}
use Rattle.attribute_propagation.proofs.ports.tell_elsewhere.Given as goal

-- the sets so far are told, and the others are as they were
abbrev pub invariant-loop-place : goal.invariant-loop-place
invariant-loop-place g l = AreDone (IsTold g.K.Ord.cmp l.at l.keys) 0 l.place l.fn.sets.items l.sets.items
