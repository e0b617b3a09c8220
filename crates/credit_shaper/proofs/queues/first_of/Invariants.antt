-- What the loop has passed is of other traffic.
use Rattle.std.proofs.Common.{◌≡◌, false}
use Rattle.std.specs.List.{AllWithin}
use Rattle.credit_shaper.specs.{is_of}
use Rattle.credit_shaper.proofs.queues.first_of.Given as goal

abbrev pub invariant-loop-i : goal.invariant-loop-i
invariant-loop-i l = AllWithin (λ x. is_of l.traffic x ≡ false) l.arrivals l.from l.i
