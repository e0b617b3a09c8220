use Rattle.std.proofs.Common.{◌∙◌, ap, sym, map}
use Rattle.mrp_participant.specs.{begun_row}
use Rattle.mrp_participant.proofs.Hearings.{map-begun_false}
use Rattle.mrp_participant.proofs.hearing.begin_all.Goals as goal

pub returns-else-leave_all-clause-rows : goal.returns-else-leave_all-clause-rows
returns-else-leave_all-clause-rows g c =
    map-begun_false c.args.leave c.args.rows.now.items ∙ ap (λ b. map (begun_row b c.args.leave) c.args.rows.now.items) (sym c.if-leave_all.false)
