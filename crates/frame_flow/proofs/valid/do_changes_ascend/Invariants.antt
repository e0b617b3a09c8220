-- What the loop has passed is in order.
use Rattle.std.specs.List.{AllAdjacentBelow}
use Rattle.frame_flow.specs.{IsEarlier}
use Rattle.frame_flow.proofs.valid.do_changes_ascend.Given as goal

abbrev pub invariant-loop-i : goal.invariant-loop-i
invariant-loop-i l = AllAdjacentBelow IsEarlier l.changes l.i
