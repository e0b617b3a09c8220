use Rattle.tree_topology.proofs.RouteFacts.{step-up}
use Rattle.tree_topology.proofs.climb.Climb.go_up.Goals as goal

pub returns-clause-path : goal.returns-clause-path
returns-clause-path c =
    step-up _ _ _ _ _ _ _ _ _ _ c.args.self.now.downs.items c.parent-next.ensures.routed c.requires.here c.requires.there
    c.requires.apart c.requires.deeper c.parent-next.ensures.parent c.port_to-port.ensures c.in_ok-push.ensures.items
