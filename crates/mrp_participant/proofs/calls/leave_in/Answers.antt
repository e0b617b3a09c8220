use Rattle.std.proofs.Common.{rules, refl, sym, ap}
use Rattle.mrp_participant.specs.{after_leave, is_leaving_in}
use Rattle.mrp_participant.proofs.Places.{found-at_row, absent-at_gap, put-at_row, put-none}
use Rattle.mrp_participant.proofs.calls.leave_in.Goals as goal

pub returns-in-Ok-clause-was : goal.returns-in-Ok-clause-was
returns-in-Ok-clause-was g c =
    rw (found-at_row c.args.rows.now.items _ _ c.as_slice.ensures.value c.index.result.now c.in-Ok.ensures.row c.index.ensures)
    (search rules)

pub returns-in-Ok-clause-rows : goal.returns-in-Ok-clause-rows
returns-in-Ok-clause-rows g c =
    put-at_row c.args.rows.now.items _ _ c.as_slice.ensures.value after_leave _ c.index.result.now _
    c.in-Ok.ensures.row c.index.ensures c.left.ensures c.replace_row.ensures.rows

pub returns-in-Err-clause-was : goal.returns-in-Err-clause-was
returns-in-Err-clause-was g c =
    ap is_leaving_in (sym (absent-at_gap c.args.rows.now.items _ _ c.as_slice.ensures.value c.in-Err.ensures.gap))

pub returns-in-Err-clause-rows : goal.returns-in-Err-clause-rows
returns-in-Err-clause-rows g c =
    put-none c.args.rows.now.items _ _ c.as_slice.ensures.value after_leave c.in-Err.ensures.gap refl
