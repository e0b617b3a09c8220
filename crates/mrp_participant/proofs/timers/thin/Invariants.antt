use Rattle.std.proofs.Common.{◌-◌, length}
use Rattle.mrp_participant.specs.{after_leave_due}
use Rattle.mrp_participant.proofs.Thinning.{ThinsInPlace}
use Rattle.mrp_participant.proofs.timers.thin.Given as goal

abbrev pub invariant-loop-at : goal.invariant-loop-at
invariant-loop-at g l = ThinsInPlace (after_leave_due l.now.0) l.fn.rows.items l.rows.items l.kept l.at

abbrev pub decreases-loop-at : goal.decreases-loop-at
decreases-loop-at g l = length l.rows.items - l.at
