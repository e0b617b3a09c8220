use Rattle.std.proofs.Common.{◌∙◌, ◌==◌, ap, sym}
use Rattle.mrp_participant.proofs.OutlookLemmas.{tried-says}
use Rattle.mrp_participant.proofs.outlook.is_none_tried.Goals as goal

pub returns : goal.returns
returns g c = ap (λ n. n == 0) c.requires.0.tried ∙ sym (tried-says c.args.rows.now)
