use Rattle.std.proofs.Common.{◌∙◌, sym}
use Rattle.srp_base.proofs.Lists.{list_any-map}
use Rattle.mrp_participant.specs.State.{is_any_due}
use Rattle.flat_side.specs.{PartHolding}
use Rattle.flat_side.proofs.side.any_due.Goals as goal

pub returns : goal.returns
returns g c = c.some_is_due.ensures ∙ sym (list_any-map (is_any_due c.args.now) (λ (part : PartHolding g.row.A-Key.Denot). part.state) c.args.parts.now)
