use Rattle.std.proofs.Common.{◌∙◌, ap, subst}
use Rattle.mrp_participant.specs.{IsOutlook, order, first_limit}
use Rattle.mrp_participant.proofs.Sendings.{rows-by_limit}
use Rattle.mrp_participant.proofs.sending.step_rows.Goals as goal

pub returns-clause-rows : goal.returns-clause-rows
returns-clause-rows g c =
    c.step_each.ensures
    ∙ rows-by_limit g.met.A.Key.Ord.total g.A.MrpApp.base g.A.MrpApp.octets c.args.leave_all c.args.leave c.args.rows.now.items _ c.requires
    (c.find_limit-limit.ensures
    ∙ ap (λ l. first_limit c.args.leave_all g.A.MrpApp.octets g.A.MrpApp.base (order c.args.leave_all l)) c.as_slice.ensures.value)

pub returns-clause-outlook : goal.returns-clause-outlook
returns-clause-outlook g c = subst (IsOutlook c.outlook_of.result) c.as_slice-2.ensures.value c.outlook_of.ensures
