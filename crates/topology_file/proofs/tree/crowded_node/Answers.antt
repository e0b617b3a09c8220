use Rattle.topology_file.proofs.TreeRules.{crowded-here, crowded-later}
use Rattle.topology_file.proofs.tree.crowded_node.Goals as goal

pub returns-then-ports-gt16 : goal.returns-then-ports-gt16
returns-then-ports-gt16 c =
    crowded-here c.args.tree.now.links c.args.nodes.now c.loop-i.i c.ports.result _ c.loop-i-test.true c.ports.ensures c.if-ports-gt16.true c.loop-i.invariant

pub loop-i-preserved : goal.loop-i-preserved
loop-i-preserved c =
    crowded-later c.args.tree.now.links c.args.nodes.now c.loop-i.i c.ports.result _ c.loop-i-test.true c.ports.ensures c.if-ports-gt16.false c.loop-i.invariant
