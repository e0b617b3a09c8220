use Rattle.std.proofs.Common.{◌∙◌}
use Rattle.link_net.proofs.Acting.{readied_more, same_states}
use Rattle.link_net.proofs.happen.make_ready.Goals as goal

pub returns-in_err-make_ready-clause-states : goal.returns-in_err-make_ready-clause-states
returns-in_err-make_ready-clause-states g c =
    same_states g.N.LinkNode.state c.loop-i.nodes.items c.loop-i.i c.index_mut.result.now c.make_ready.new.self c.index_mut.ensures.value c.make_ready.ensures.state ∙ c.loop-i.invariant.states

pub loop-i-preserved : goal.loop-i-preserved
loop-i-preserved g c =
    readied_more g.N.LinkNode.state g.N.LinkNode.is_ready c.args.nodes.now.items c.loop-i.nodes.items c.loop-i.i c.index_mut.result.now c.make_ready.new.self
    c.loop-i.invariant c.index_mut.ensures.value c.make_ready.ensures.state c.in_ok-make_ready.ensures.ready
