-- What the loop has passed is in order.
use Rattle.std.proofs.Common.{◌<◌}
use Rattle.std.specs.List.{AllAdjacentBelow}
use Rattle.credit_shaper.proofs.port.do_changes_ascend.Given as goal

abbrev pub invariant-loop-i : goal.invariant-loop-i
invariant-loop-i l = AllAdjacentBelow (λ x y. x.bit < y.bit) l.slopes l.i
