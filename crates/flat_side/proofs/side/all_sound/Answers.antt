use Rattle.std.proofs.Common.{◌∙◌, sym}
use Rattle.std.proofs.lemmas.List.Folds.{list_all-map}
use Rattle.flat_side.specs.Part.{Part}
use Rattle.flat_side.specs.{PartHolding}
use Rattle.flat_side.proofs.side.all_sound.Goals as goal

pub returns : goal.returns
returns g c = c.each_is_sound.ensures ∙ sym (list_all-map (λ (s : Part g.row.A-Key.Denot). s.sound) (λ (part : PartHolding g.row.A-Key.Denot). part.state) c.args.parts.now)
