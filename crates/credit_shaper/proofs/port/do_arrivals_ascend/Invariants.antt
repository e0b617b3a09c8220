-- What the loop has passed is in order.
use Rattle.credit_shaper.specs.{IsNotAfter}
use Rattle.std.specs.List.{AllAdjacentBelow}
use Rattle.credit_shaper.proofs.port.do_arrivals_ascend.Given as goal

abbrev pub invariant-loop-i : goal.invariant-loop-i
invariant-loop-i l = AllAdjacentBelow IsNotAfter l.arrivals l.i
