use Rattle.std.proofs.Common.{◌∙◌, sym, length}
use Rattle.std.specs.Prelude.{◌==◌}
use Rattle.std.proofs.lemmas.List.Folds.{list_all-map}
use Rattle.attribute_propagation.specs.{KeySet}
use Rattle.attribute_propagation.proofs.ports.none_awaits.Goals as goal

pub returns : goal.returns
returns g c = c.are_empty.ensures ∙ sym (list_all-map (λ keys. length keys == 0) (λ (set : KeySet g.row.K.Denot). set.keys) c.args.sets.now)
