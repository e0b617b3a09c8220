use Rattle.std.proofs.Common.{◌∙◌, ap}
use Rattle.std.specs.Prelude.{slice_set}
use Rattle.std.proofs.lemmas.List.{map-set}
use Rattle.attribute_propagation.specs.{KeySet, keys_in}
use Rattle.attribute_propagation.proofs.ports.empty_at.Goals as goal

pub returns : goal.returns
returns g c =
    map-set (λ (set : KeySet g.row.K.Denot). set.keys) c.args.sets.now.items c.args.at c.empty.new.self
    ∙ ap (λ keys. slice_set (keys_in c.args.sets.now.items) c.args.at keys) c.empty.ensures.keys
