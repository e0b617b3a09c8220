use Rattle.std.proofs.Common.{arith}
use Rattle.tree_topology.proofs.SpanSteps.{neighbour-at, visit-step, visit-end}
use Rattle.tree_topology.proofs.span.Span.visit.Goals as goal

pub reach-requires-clause-parents : goal.reach-requires-clause-parents
reach-requires-clause-parents c =
    omega (
      arith,
      c.loop-neighbour.invariant.span.parents_size,
      (neighbour-at _ _ _ _ _ c.args.graph.now.is_graph.known c.neighbours-neighbour-items.ensures c.loop-neighbour-test.true).1,
    )

pub reach-requires-clause-depths : goal.reach-requires-clause-depths
reach-requires-clause-depths c =
    omega (
      arith,
      c.loop-neighbour.invariant.span.depths_size,
      (neighbour-at _ _ _ _ _ c.args.graph.now.is_graph.known c.neighbours-neighbour-items.ensures c.loop-neighbour-test.true).1,
    )

pub loop-neighbour-preserved : goal.loop-neighbour-preserved
loop-neighbour-preserved c =
    let s = visit-step _ _ _ _ _ _ _ _ _ _ _ _ _ c.args.graph.now.is_graph.known c.neighbours-neighbour-items.ensures
    c.loop-neighbour-test.true c.loop-neighbour.invariant.span c.loop-neighbour.invariant.grows c.loop-neighbour.invariant.reached
    c.requires.node c.requires.reached c.in_ok-reach.ensures.parents c.in_ok-reach.ensures.depths c.in_ok-reach.ensures.order in
    record { span = s.0; grows = s.1; reached = s.2 }

pub returns-clause-neighbours : goal.returns-clause-neighbours
returns-clause-neighbours c = visit-end _ _ _ _ _ c.args.graph.now.is_graph.no_self c.neighbours-neighbour-items.ensures c.loop-neighbour-test.false c.loop-neighbour.invariant.reached
