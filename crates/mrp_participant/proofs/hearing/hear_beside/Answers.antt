use Rattle.std.proofs.Common.{ap}
use Rattle.std.specs.Prelude.{option_map}
use Rattle.std.proofs.lemmas.Result.{on_ok_weaker}
use Rattle.std.specs.declared.option.Option.TheVariants.{Some}
use Rattle.mrp_participant.specs.{find, after_hear, first_of, begun_row}
use Rattle.mrp_participant.proofs.Places.{put-at_row, put-at_gap, put-none}
use Rattle.mrp_participant.proofs.hearing.hear_beside.Goals as goal

pub returns-in-Ok : goal.returns-in-Ok
returns-in-Ok g c =
    put-at_row c.args.heard.now.items _ _ c.as_slice.ensures.value
    (λ r. after_hear c.args.said.0 c.args.said.1 c.args.said.2 c.args.leave
    (first_of r (option_map (begun_row c.args.leave_all c.args.leave)
    (find g.K.Ord.cmp c.args.said.1 c.args.rows.now))))
    _ c.index-row.result.now _ c.in-Ok.ensures.row c.index-row.ensures (ap Some c.hears.ensures) c.replace_at.ensures.rows

pub returns-in-Some : goal.returns-in-Some
returns-in-Some g c =
    on_ok_weaker _
    (put-at_gap c.args.heard.now.items _ _ c.as_slice.ensures.value
    (λ r. after_hear c.args.said.0 c.args.said.1 c.args.said.2 c.args.leave
    (first_of r (option_map (begun_row c.args.leave_all c.args.leave)
    (find g.K.Ord.cmp c.args.said.1 c.args.rows.now))))
    _ (Some c.in-Some.row) c.in-Err.ensures.gap c.in-Some.ensures) c.fill_at.ensures.ok

pub returns-in-None : goal.returns-in-None
returns-in-None g c =
    put-none c.args.heard.now.items _ _ c.as_slice.ensures.value
    (λ r. after_hear c.args.said.0 c.args.said.1 c.args.said.2 c.args.leave
    (first_of r (option_map (begun_row c.args.leave_all c.args.leave)
    (find g.K.Ord.cmp c.args.said.1 c.args.rows.now))))
    c.in-Err.ensures.gap c.in-None.ensures
