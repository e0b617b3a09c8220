use Rattle.std.proofs.Common.{◌≡◌, ◌++◌, true, map, take, drop}
use Rattle.mrp_participant.specs.{begun_row}
use Rattle.mrp_participant.proofs.hearing.leave_all_in.Given as goal

abbrev pub invariant-loop-row : goal.invariant-loop-row
invariant-loop-row g l =
    l.row-items ≡ map (begun_row true l.fn.leave) (take l.row-index l.fn.rows.items) ++ drop l.row-index l.fn.rows.items
