use Rattle.std.proofs.Common.{◌≡◌, ◌++◌, map, take, drop}
use Rattle.mrp_participant.specs.{periodic_row}
use Rattle.mrp_participant.proofs.timers.all_periodic.Given as goal

abbrev pub invariant-loop-row : goal.invariant-loop-row
invariant-loop-row g l =
    l.row-items ≡ map periodic_row (take l.row-index l.fn.rows.items) ++ drop l.row-index l.fn.rows.items
