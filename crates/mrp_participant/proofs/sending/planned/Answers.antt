use Rattle.std.proofs.Common.{◌∙◌}
use Rattle.mrp_participant.proofs.Sendings.{events-by_limit}
use Rattle.mrp_participant.proofs.sending.planned.Goals as goal

pub returns : goal.returns
returns g c =
    c.from_vec.ensures
    ∙ c.in_ok-events.ensures
    ∙ events-by_limit g.met.A.Key.Ord.total g.A.MrpApp.base g.A.MrpApp.octets c.args.leave_all c.args.leave c.args.rows.now _
    c.requires c.find_limit-limit.ensures
