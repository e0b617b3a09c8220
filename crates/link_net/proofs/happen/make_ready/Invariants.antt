use Rattle.link_net.proofs.Acting.{AreReadied}
use Rattle.link_net.proofs.happen.make_ready.Given as goal

abbrev pub invariant-loop-i : goal.invariant-loop-i
invariant-loop-i g l = AreReadied g.N.LinkNode.state g.N.LinkNode.is_ready l.initial.nodes.items l.nodes.items l.i
