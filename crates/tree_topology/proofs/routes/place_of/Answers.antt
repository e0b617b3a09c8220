use Rattle.std.proofs.Common.{sym, length, arith}
use Rattle.tree_topology.proofs.RouteFacts.{place-first}
use Rattle.tree_topology.proofs.routes.place_of.Goals as goal

pub returns-then-u-node : goal.returns-then-u-node
returns-then-u-node c =
    sym (place-first c.args.nodes.now c.args.node c.loop-i.i (omega (arith, c.loop-i-test.true)) c.loop-i.invariant (λ lt. c.if-u-node.true))

pub returns : goal.returns
returns c =
    sym (place-first c.args.nodes.now c.args.node (length c.args.nodes.now) (omega arith)
    (λ k lt. c.loop-i.invariant k (omega (arith, lt, c.loop-i-test.false))) (λ lt. absurd (omega (arith, lt))))
