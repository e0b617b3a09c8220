use Rattle.std.proofs.Common.{subst}
use Rattle.mrp_participant.specs.{IsOutlook, periodic_row}
use Rattle.mrp_participant.proofs.Changed.{changed-in_place, changed-whole}
use Rattle.mrp_participant.proofs.timers.all_periodic.Goals as goal

pub loop-row-preserved : goal.loop-row-preserved
loop-row-preserved g c =
    changed-in_place periodic_row c.args.rows.now.items _ _ _ c.row-item.result _ c.loop-row-test.true c.deref_mut-row-items.ensures.value c.loop-row.invariant
    c.row-item.is c.hears_periodic.ensures

pub loop-row-init : goal.loop-row-init
loop-row-init g c = c.deref_mut-row-items.ensures.value

pub returns-clause-rows : goal.returns-clause-rows
returns-clause-rows g c =
    changed-whole periodic_row c.args.rows.now.items _ _ _ _ c.loop-row-test.false c.deref_mut-row-items.ensures.value c.deref_mut-row-items.ensures.len c.loop-row.invariant

pub returns-clause-outlook : goal.returns-clause-outlook
returns-clause-outlook g c = subst (IsOutlook c.outlook_of.result) c.as_slice.ensures.value c.outlook_of.ensures
