use Rattle.std.proofs.Common.{◌∙◌, sym}
use Rattle.std.proofs.lemmas.List.Folds.{list_all-map}
use Rattle.mrp_participant.specs.State.{is_still}
use Rattle.flat_side.specs.{PartHolding}
use Rattle.flat_side.proofs.side.all_still.Goals as goal

pub returns : goal.returns
returns g c = c.each_is_still.ensures ∙ sym (list_all-map is_still (λ (part : PartHolding g.row.A-Key.Denot). part.state) c.args.parts.now)
