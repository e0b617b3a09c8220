use Rattle.tree_topology.proofs.{Links.joined-sym, RouteFacts.step-down}
use Rattle.tree_topology.proofs.climb.Climb.come_down.Goals as goal

pub port_to-port-requires : goal.port_to-port-requires
port_to-port-requires c = joined-sym c.args.routes.now.links c.args.self.now.there c.parent-next.result c.parent-next.ensures.joined

pub returns-clause-path : goal.returns-clause-path
returns-clause-path c =
    step-down _ _ _ _ _ _ _ _ _ _ _ c.parent-next.ensures.routed c.requires.here c.requires.there c.requires.apart
    c.requires.deeper c.parent-next.ensures.parent c.port_to-port.ensures c.in_ok-push.ensures.items
