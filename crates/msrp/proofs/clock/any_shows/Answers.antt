use Rattle.std.proofs.Common.{◌∙◌, sym}
use Rattle.srp_base.proofs.Lists.{list_any-map}
use Rattle.msrp.specs.{shows_at, PortHolding}
use Rattle.msrp.specs.PortState.{PortState}
use Rattle.msrp.proofs.clock.any_shows.Goals as goal

pub returns : goal.returns
returns c = c.some_shows.ensures ∙ sym (list_any-map (λ (p : PortState). shows_at c.args.now.0 p) (λ (p : PortHolding). p.state) c.args.ports.now)
