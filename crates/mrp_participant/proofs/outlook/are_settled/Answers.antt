use Rattle.std.proofs.Common.{◌∙◌}
use Rattle.mrp_participant.proofs.OutlookLemmas.{settled-says}
use Rattle.mrp_participant.proofs.outlook.are_settled.Goals as goal

pub returns : goal.returns
returns g c = c.is_at_rest.ensures ∙ settled-says c.args.outlook c.args.rows.now c.requires
