use Rattle.std.proofs.Common.{true}
use Rattle.mrp_participant.specs.{begun_row}
use Rattle.mrp_participant.proofs.Changed.{changed-in_place, changed-whole}
use Rattle.mrp_participant.proofs.hearing.leave_all_in.Goals as goal

pub loop-row-preserved : goal.loop-row-preserved
loop-row-preserved g c =
    changed-in_place
    (begun_row true c.args.leave) c.args.rows.now.items _ _ _ c.row-item.result _ c.loop-row-test.true c.deref_mut-row-items.ensures.value c.loop-row.invariant
    c.row-item.is c.hears_leave_all.ensures

pub loop-row-init : goal.loop-row-init
loop-row-init g c = c.deref_mut-row-items.ensures.value

pub returns : goal.returns
returns g c =
    changed-whole
    (begun_row true c.args.leave) c.args.rows.now.items _ _ _ _ c.loop-row-test.false c.deref_mut-row-items.ensures.value c.deref_mut-row-items.ensures.len c.loop-row.invariant
