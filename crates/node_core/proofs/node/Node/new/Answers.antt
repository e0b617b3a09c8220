use Rattle.std.proofs.Common.{◌<◌, ◌^◌, List, sym, subst, rules}
use Rattle.mvrp.specs.Side.{Vlans}
use Rattle.msrp.specs.Side.{Streams}
use Rattle.node_core.specs.{Wire, NodeState, IsProperNode}
use Rattle.node_core.proofs.node.Node.new.Goals as goal

pub invariant_of-result : goal.invariant_of-result
invariant_of-result c =
    let of : Vlans × Streams × List (List Wire) × List (List Wire) → NodeState
    = λ x. record { kind = c.args.kind; bridge = c.args.bridge; clock = record { 0 = 0 }; vlans = x.0; streams = x.1; inboxes = x.2; outboxes = x.3 } in
    let fits : c.args.bridge.0 < 2 ^ 64 = search rules in
    subst (λ (x : Vlans × Streams × List (List Wire) × List (List Wire)). IsProperNode (of x))
    (λ i. ((sym c.in_ok-mvrp.ensures i).state, (sym c.in_ok-msrp.ensures i).state, sym c.in_ok-inboxes.ensures i, sym c.in_ok-outboxes.ensures i))
    (c.a_new_node_is_proper.ensures c.args.kind c.args.bridge c.args.leave_time c.args.periodic c.args.domain c.args.ports.now c.requires.few fits)
