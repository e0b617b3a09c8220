use Rattle.std.proofs.Common.{◌∙◌, sym}
use Rattle.std.proofs.lemmas.List.Folds.{list_all-map}
use Rattle.mrp_participant.specs.State.{is_still}
use Rattle.msrp.specs.PortState.{PortState}
use Rattle.msrp.specs.{PortHolding}
use Rattle.msrp.proofs.side.all_still.Goals as goal

pub returns : goal.returns
returns c = c.each_is_still.ensures ∙ sym (list_all-map (λ (p : PortState). is_still p.part) (λ (p : PortHolding). p.state) c.args.ports.now)
