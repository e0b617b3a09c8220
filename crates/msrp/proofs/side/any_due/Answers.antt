use Rattle.std.proofs.Common.{◌∙◌, sym}
use Rattle.srp_base.proofs.Lists.{list_any-map}
use Rattle.mrp_participant.specs.State.{is_any_due}
use Rattle.msrp.specs.PortState.{PortState}
use Rattle.msrp.specs.{PortHolding}
use Rattle.msrp.proofs.side.any_due.Goals as goal

pub returns : goal.returns
returns c = c.some_is_due.ensures ∙ sym (list_any-map (λ (p : PortState). is_any_due c.args.now p.part) (λ (p : PortHolding). p.state) c.args.ports.now)
