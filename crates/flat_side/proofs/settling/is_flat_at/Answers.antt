use Rattle.std.proofs.Common.{◌∙◌, sym}
use Rattle.flat_side.proofs.Changing.{rule_split}
use Rattle.flat_side.proofs.settling.is_flat_at.Goals as goal

pub returns : goal.returns
returns g c = c.is_asked_elsewhere.ensures ∙ sym (rule_split g.A.Key.Ord.cmp c.args.at c.args.own.now.keys c.args.parts.now c.args.key)
