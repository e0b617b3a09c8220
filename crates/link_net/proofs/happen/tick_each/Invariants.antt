use Rattle.link_net.proofs.Acting.{AreTicked}
use Rattle.link_net.proofs.happen.tick_each.Given as goal

abbrev pub invariant-loop-i : goal.invariant-loop-i
invariant-loop-i g l = AreTicked g.N.LinkNode.state (g.N.LinkNode.meaning.ticked l.fn.now) l.i l.fn.nodes.items l.nodes.items
