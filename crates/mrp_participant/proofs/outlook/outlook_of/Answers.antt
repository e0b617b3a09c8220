use Rattle.std.proofs.Common.{subst, refl, sym, []}
use Rattle.std.proofs.lemmas.List.{take_all}
use Rattle.mrp_participant.specs.{IsOutlook}
use Rattle.mrp_participant.proofs.OutlookLemmas.{room-walked, walk-step}
use Rattle.mrp_participant.proofs.outlook.outlook_of.Goals as goal

pub loop-row-preserved : goal.loop-row-preserved
loop-row-preserved g c =
    walk-step c.loop-row.outlook c.with-outlook.result c.args.rows.now c.loop-row.row-index c.row-item.result c.loop-row-test.true c.row-item.is c.with-outlook.ensures c.loop-row.invariant

pub returns : goal.returns
returns g c = subst (IsOutlook c.loop-row.outlook) (take_all c.loop-row.row-index c.args.rows.now c.loop-row-test.false) c.loop-row.invariant

pub loop-row-init : goal.loop-row-init
loop-row-init g c = subst (λ o. IsOutlook o []) (sym c.empty-outlook.ensures) (record { first = tt; tried = refl }, refl)

pub offset_bounds-rows-row-index : goal.offset_bounds-rows-row-index
offset_bounds-rows-row-index g c = c.loop-row.auto.row-index-end

pub with-outlook-requires : goal.with-outlook-requires
with-outlook-requires g c = room-walked c.loop-row.outlook c.args.rows.now c.loop-row.row-index c.loop-row-test.true c.well_formed.0.0 c.loop-row.invariant
