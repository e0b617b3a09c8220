use Rattle.std.proofs.Common.{◌∙◌, List, ap, map, Bor}
use Rattle.credit_shaper.specs.declared.port.Departures.{Departures}
use Rattle.srp_base.specs.declared.ports.PortChange.{PortChange}
use Rattle.frame_flow.specs.{fates_by}
use Rattle.frame_flow.proofs.FateLemmas.{flow-is}
use Rattle.frame_flow.proofs.fates.flow_of_copies.Goals as goal

pub returns : goal.returns
returns c =
    let changes : List PortChange = map (λ (x : Bor PortChange). x.now) c.args.changes.now in
    flow-is c.args.ticks c.args.place changes c.args.copies.now _ _ _ _ _ _ c.in_ok-slopes.ensures (c.from_vec.ensures ∙ c.in_ok-all.ensures.arrivals)
    c.bits_of_ticks.ensures.value (ap (λ (d : Departures). d.sent) c.in_ok-sent.ensures.exact) c.in_ok-all.ensures.all
    (c.in_ok-fates.ensures ∙ ap (fates_by c.in_ok-sent.field-0.sent) c.deref.ensures.value)
