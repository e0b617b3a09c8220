use Rattle.std.proofs.Common.{◌-◌, length, sym, subst, get_or}
use Rattle.tree_topology.specs.{IsNode, Joined, IsPort, Routed}
use Rattle.tree_topology.proofs.RouteFacts.{far-node, far-read}
use Rattle.tree_topology.proofs.routes.Routes.far_node.Goals as goal

pub returns-clause-node : goal.returns-clause-node
returns-clause-node c =
    let F : Routed → Type 0 = λ r. IsPort (length r.kinds) r.links c.args.at in
    let G : Routed → Type 0 = λ r. IsNode (length r.kinds) (get_or c.neighbours.result.now (c.from.result - 1) 0) in
    subst G c.self.view_is (far-node _ _ _ _ c.args.at _ c.self.invariant (subst F (sym c.self.view_is) c.requires)
    (far-read c.self.inside.graph.links.items c.args.at _ _ c.neighbours.ensures c.from.ensures)).0

pub returns-clause-joined : goal.returns-clause-joined
returns-clause-joined c =
    let F : Routed → Type 0 = λ r. IsPort (length r.kinds) r.links c.args.at in
    let G : Routed → Type 0 = λ r. Joined r.links c.args.at.node.0 (get_or c.neighbours.result.now (c.from.result - 1) 0) in
    subst G c.self.view_is (far-node _ _ _ _ c.args.at _ c.self.invariant (subst F (sym c.self.view_is) c.requires)
    (far-read c.self.inside.graph.links.items c.args.at _ _ c.neighbours.ensures c.from.ensures)).1
