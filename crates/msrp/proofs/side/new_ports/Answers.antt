use Rattle.std.proofs.Common.{◌+◌, ◌≤◌, [], ◌∷◌, ◌++◌, map, refl, ap, ◌∙◌}
use Rattle.mrp_participant.specs.State.{IsTime}
use Rattle.srp_base.specs.declared.ports.PortSetup.{PortSetup}
use Rattle.msrp.specs.PortState.{PortState}
use Rattle.msrp.specs.{new_port as port_of, ports_in}
use Rattle.msrp.proofs.{InPlace.states_joined, Places.each-at, Places.one_more}
use Rattle.msrp.proofs.side.new_ports.Goals as goal

pub new-requires-clause-period : goal.new-requires-clause-period
new-requires-clause-period c =
    each-at (λ (p : PortSetup). IsTime p.period) c.args.ports.now c.loop-port.port-index c.port-item.result c.loop-port-test.true c.port-item.is c.requires.periods

pub new-requires-clause-shares : goal.new-requires-clause-shares
new-requires-clause-shares c =
    each-at (λ (p : PortSetup). p.delta_a + p.delta_b ≤ 90) c.args.ports.now c.loop-port.port-index c.port-item.result c.loop-port-test.true c.port-item.is c.requires.shares

pub loop-port-preserved : goal.loop-port-preserved
loop-port-preserved c =
    let new = port_of c.args.bridge c.args.leave_time c.args.periodic c.args.domain in
    one_more (map new) (λ (p : PortSetup). new p ∷ []) c.args.ports.now c.loop-port.port-index c.port-item.result (ports_in c.loop-port.all.items) (ports_in c.push.new.self.items) _
    (λ p ps. refl) c.loop-port-test.true
    (ap ports_in c.in_ok-push.ensures.items ∙ (states_joined c.loop-port.all.items c.in_ok-made.made
    ∙ ap (λ (p : PortState). ports_in c.loop-port.all.items ++ p ∷ []) (c.in_ok-made.ensures ∙ ap new c.port-item.is)))
    c.loop-port.invariant
