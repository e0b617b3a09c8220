use Rattle.std.proofs.Common.{◌∙◌, sym}
use Rattle.std.proofs.lemmas.List.Folds.{list_all-map}
use Rattle.msrp.specs.PortState.{PortState}
use Rattle.msrp.specs.{PortHolding}
use Rattle.msrp.proofs.side.all_sound.Goals as goal

pub returns : goal.returns
returns c = c.each_is_sound.ensures ∙ sym (list_all-map (λ (p : PortState). p.part.sound) (λ (p : PortHolding). p.state) c.args.ports.now)
