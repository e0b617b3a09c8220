use Rattle.tree_topology.proofs.RouteFacts.{climb-first, climb-step, climb-end}
use Rattle.tree_topology.proofs.routes.Routes.is_below.Goals as goal

pub parent-at-requires-clause-not_first : goal.parent-at-requires-clause-not_first
parent-at-requires-clause-not_first c =
    climb-first _ _ _ _ _ _ _ _ c.depth.ensures.routed c.requires.top c.depth-depth.ensures.depth c.depth.ensures.depth c.loop-at-test.true

pub loop-at-preserved : goal.loop-at-preserved
loop-at-preserved c = record {
  node = c.parent-at.ensures.node;
  side = climb-step _ _ _ _ _ _ _ _ _ _ c.depth.ensures.routed c.requires.top c.loop-at.invariant.node c.requires.not_first
      c.depth-depth.ensures.depth c.depth.ensures.depth c.loop-at-test.true c.parent-at.ensures.parent c.loop-at.invariant.side;
}

pub returns : goal.returns
returns c =
    climb-end _ _ _ _ _ _ _ _ _ c.depth.ensures.routed c.requires.top c.loop-at.invariant.node c.requires.not_first
    c.depth-depth.ensures.depth c.depth.ensures.depth c.loop-at-test.false c.loop-at.invariant.side
