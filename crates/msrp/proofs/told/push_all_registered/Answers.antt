use Rattle.std.proofs.Common.{◌++◌, refl, ap, ◌∙◌}
use Rattle.std.specs.List.{flat_map}
use Rattle.msrp.specs.Part.{Part}
use Rattle.msrp.specs.PortState.{PortState}
use Rattle.msrp.specs.{PortHolding, ports_in, registered_keys}
use Rattle.msrp.proofs.Places.{one_more}
use Rattle.msrp.proofs.told.push_all_registered.Goals as goal

pub loop-port-preserved : goal.loop-port-preserved
loop-port-preserved c =
    one_more (λ ps. flat_map (λ (p : PortState). registered_keys p.part) (ports_in ps)) (λ (p : PortHolding). registered_keys p.state.part) c.args.ports.now c.loop-port.port-index c.port-item.result
    c.loop-port.out.items c.push_registered.new.out.items _ (λ p ps. refl) c.loop-port-test.true
    (c.in_ok-push_registered.ensures
    ∙ (ap (λ (s : Part). c.loop-port.out.items ++ registered_keys s) c.part.ensures
    ∙ ap (λ (p : PortHolding). c.loop-port.out.items ++ registered_keys p.state.part) c.port-item.is))
    c.loop-port.invariant
