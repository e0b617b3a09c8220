use Rattle.std.proofs.Common.{ap}
use Rattle.std.specs.declared.option.Option.TheVariants.{Some}
use Rattle.mrp_participant.specs.{after_withdraw}
use Rattle.mrp_participant.proofs.Places.{put-at_row}
use Rattle.mrp_participant.proofs.calls.withdraw_in.Goals as goal

pub returns-in-Ok-clause-rows : goal.returns-in-Ok-clause-rows
returns-in-Ok-clause-rows g c =
    put-at_row c.args.rows.now.items _ _ c.as_slice.ensures.value after_withdraw _ c.index.result.now (Some c.withdrawn-row.result)
    c.in-Ok.ensures.row c.index.ensures (ap Some c.withdrawn-row.ensures) c.replace_row.ensures.rows
