use Rattle.std.proofs.Common.{◌∙◌}
use Rattle.tree_topology.proofs.RouteFacts.{child-of, parent-of, behind-child, behind-parent}
use Rattle.tree_topology.proofs.routes.Routes.behind.Goals as goal

pub is_below-requires-clause-not_first : goal.is_below-requires-clause-not_first
is_below-requires-clause-not_first c =
    (child-of _ _ _ _ _ _ _ _ c.depth.ensures.routed c.far_node-far.ensures.joined c.depth.ensures.depth c.depth-2.ensures.depth c.if-depth.true).0

pub is_below-requires-else-depth-clause-not_first :
    goal.is_below-requires-else-depth-clause-not_first
is_below-requires-else-depth-clause-not_first c =
    (parent-of _ _ _ _ _ _ _ _ c.depth.ensures.routed c.far_node-far.ensures.joined c.depth.ensures.depth c.depth-2.ensures.depth c.if-depth.false).0

pub returns-then-depth : goal.returns-then-depth
returns-then-depth c =
    let child = child-of _ _ _ _ _ _ _ _ c.depth.ensures.routed c.far_node-far.ensures.joined c.depth.ensures.depth c.depth-2.ensures.depth c.if-depth.true in
    behind-child _ _ _ _ _ _ c.far_node-far.ensures.far child.1 c.is_below.ensures

pub returns-else-depth : goal.returns-else-depth
returns-else-depth c =
    let parent = parent-of _ _ _ _ _ _ _ _ c.depth.ensures.routed c.far_node-far.ensures.joined c.depth.ensures.depth c.depth-2.ensures.depth c.if-depth.false in
    behind-parent _ _ c.depth.ensures.routed.accepted.tree _ _ _ _ c.requires.port c.requires.node (parent.1
    ∙ c.far_node-far.ensures.far) c.is_below-else-depth.ensures
