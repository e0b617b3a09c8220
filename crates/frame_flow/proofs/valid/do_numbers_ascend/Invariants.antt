-- What the loop has passed is in order.
use Rattle.std.proofs.Common.{◌<◌}
use Rattle.std.specs.List.{AllAdjacentBelow}
use Rattle.frame_flow.proofs.valid.do_numbers_ascend.Given as goal

abbrev pub invariant-loop-i : goal.invariant-loop-i
invariant-loop-i l = AllAdjacentBelow (λ f g. f.number < g.number) l.frames l.i
