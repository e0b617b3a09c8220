use Rattle.std.proofs.Common.{List, sym, subst}
use Rattle.std.specs.List.{AllByRecursion}
use Rattle.std.proofs.lemmas.List.{at_drop_more}
use Rattle.node_core.specs.{Holding.NodeHolding, Holding.states_in, Proper.IsProperNode}
use Rattle.world_core.proofs.apart.each_is_proper.Goals as goal

pub loop-node-preserved : goal.loop-node-preserved
loop-node-preserved c =
    let nodes = c.args.nodes.now in
    let i = c.loop-node.node-index in
    let node : NodeHolding = c.node-item.result in
    let proper = subst (λ (n : NodeHolding). IsProperNode n.state) c.node-item.is c.keeps_all.ensures in
    λ rest. c.loop-node.invariant
    (subst (λ (ns : List NodeHolding). AllByRecursion IsProperNode (states_in ns)) (sym (at_drop_more (λ (ns : List NodeHolding). ns) nodes i node c.loop-node-test.true)) (proper, rest))
