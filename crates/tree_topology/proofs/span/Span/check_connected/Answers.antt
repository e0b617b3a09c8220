use Rattle.std.proofs.Common.{◌+◌, arith}
use Rattle.tree_topology.proofs.{ListReads.read-zero, SpanSteps.first-unreached, SpanSteps.reached-all, SpanSteps.tree-from_span}
use Rattle.tree_topology.proofs.span.Span.check_connected.Goals as goal

pub returns-then-index-eq0-clause-err : goal.returns-then-index-eq0-clause-err
returns-then-index-eq0-clause-err c =
    let graph = c.args.graph.now in (
      graph.is_graph,
      c.requires.no_loop,
      first-unreached _ _ _ _ _ _ graph.is_graph c.requires.span c.requires.closed
          (omega (arith, graph.kinds.ok.0, c.loop-i-test.true, c.len-i-end.ensures))
          (read-zero c.args.self.now.parents.items
          (c.loop-i.i + 1) c.index.result.now c.index.ensures c.if-index-eq0.true) c.loop-i.invariant,
    )

pub returns-clause-tree : goal.returns-clause-tree
returns-clause-tree c =
    let graph = c.args.graph.now in
    tree-from_span _ _ _ _ _ graph.is_graph c.requires.no_loop c.requires.span
    (reached-all _ c.loop-i.i c.args.self.now.parents.items
    (omega (arith, graph.kinds.ok.0, c.loop-i-test.false, c.len-i-end.ensures)) c.loop-i.invariant)

pub returns-clause-reached : goal.returns-clause-reached
returns-clause-reached c = reached-all _ c.loop-i.i _ (omega (arith, c.args.graph.now.kinds.ok.0, c.loop-i-test.false, c.len-i-end.ensures)) c.loop-i.invariant
