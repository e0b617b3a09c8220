use Rattle.std.proofs.Common.{◌∙◌}
use Rattle.mrp_participant.proofs.OutlookLemmas.{due-says}
use Rattle.mrp_participant.proofs.outlook.is_leave_due.Goals as goal

pub returns : goal.returns
returns g c = c.has_due.ensures ∙ due-says c.args.now.0 c.args.outlook.first_leave c.args.rows.now c.requires.0.first c.requires.1
