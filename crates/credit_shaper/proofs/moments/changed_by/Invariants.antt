-- What the loop has passed is up to the bit time.
use Rattle.std.proofs.Common.{◌+◌, ◌<◌}
use Rattle.std.specs.List.{AllWithin}
use Rattle.credit_shaper.specs.{change_bit}
use Rattle.credit_shaper.proofs.moments.changed_by.Given as goal

abbrev pub invariant-loop-i : goal.invariant-loop-i
invariant-loop-i l = AllWithin (λ x. change_bit x < l.bit + 1) l.changes 0 l.i
