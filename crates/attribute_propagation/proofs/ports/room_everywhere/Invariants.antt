use Rattle.attribute_propagation.proofs.InPlace.{AreDone, HasRoomNow}
use Rattle.attribute_propagation.proofs.ports.room_everywhere.Given as goal

-- the sets so far have room, and the others are as they were
abbrev pub invariant-loop-place : goal.invariant-loop-place
invariant-loop-place g l = AreDone (HasRoomNow l.keys) 0 l.place l.fn.sets.items l.sets.items
