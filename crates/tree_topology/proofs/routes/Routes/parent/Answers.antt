use Rattle.std.proofs.Common.{ℕ, length, sym, subst, arith}
use Rattle.tree_topology.specs.{IsNode, Routed}
use Rattle.tree_topology.proofs.{ListReads.read-at, RouteFacts.parent-known}
use Rattle.tree_topology.proofs.routes.Routes.parent.Goals as goal

pub returns-clause-node : goal.returns-clause-node
returns-clause-node c =
    let h = c.self.invariant in
    let F : Routed → Type 0 = λ r. IsNode (length r.kinds) c.args.node in
    let G : Routed → Type 0 = λ r. IsNode (length r.kinds) c.index.result.now in
    let K : ℕ → Type 0 = λ t. IsNode (length c.self.inside.graph.kinds.items) t in
    let node : IsNode (length c.self.inside.graph.kinds.items) c.args.node = subst F (sym c.self.view_is) c.requires.node in
    let at = read-at c.self.inside.parents.items c.args.node c.from.result c.index.result.now 0 c.from.ensures
    (omega (arith, h.rooted.parents_size, node.1)) c.index.ensures in
    subst G c.self.view_is (subst K (sym at) (parent-known _ _ _ _ h.accepted.tree h.rooted c.args.node node c.requires.not_first))
