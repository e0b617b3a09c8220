use Rattle.std.proofs.Common.{◌∙◌, sym, length, not}
use Rattle.std.specs.Prelude.{◌==◌}
use Rattle.srp_base.proofs.Lists.{list_any-map}
use Rattle.attribute_propagation.specs.{KeySet}
use Rattle.attribute_propagation.proofs.ports.some_awaits.Goals as goal

pub returns : goal.returns
returns g c = c.is_any_filled.ensures ∙ sym (list_any-map (λ keys. not (length keys == 0)) (λ (set : KeySet g.row.K.Denot). set.keys) c.args.sets.now)
