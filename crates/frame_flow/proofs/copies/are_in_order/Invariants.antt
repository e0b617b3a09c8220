use Rattle.std.proofs.Common.{◌≡◌, true}
use Rattle.std.specs.List.{AllAdjacentBelow}
use Rattle.frame_flow.specs.{is_not_after}
use Rattle.frame_flow.proofs.copies.are_in_order.Given as goal

abbrev pub invariant-loop-i : goal.invariant-loop-i
invariant-loop-i l = AllAdjacentBelow (λ x y. is_not_after x y ≡ true) l.copies l.i
