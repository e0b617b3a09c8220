use Rattle.std.proofs.Common.{◌-◌, length}
use Rattle.mrp_participant.specs.{is_in_room, sent_row}
use Rattle.mrp_participant.proofs.Thinning.{ThinsInPlace}
use Rattle.mrp_participant.proofs.sending.step_each.Given as goal

abbrev pub invariant-loop-at : goal.invariant-loop-at
invariant-loop-at g l =
    ThinsInPlace (λ r. sent_row l.leave_all (is_in_room g.K.Ord.cmp l.leave_all l.limit r) l.leave r)
    l.fn.rows.items l.rows.items l.kept l.at

abbrev pub decreases-loop-at : goal.decreases-loop-at
decreases-loop-at g l = length l.rows.items - l.at
