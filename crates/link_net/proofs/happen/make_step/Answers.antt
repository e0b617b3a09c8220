use Rattle.srp_base.proofs.Arithmetic.{on_err}
use Rattle.attribute_propagation.specs.Ports.{place_of}
use Rattle.link_net.proofs.Acting.{port_there, stepped_is, same_states}
use Rattle.link_net.proofs.happen.make_step.Goals as goal

pub step-requires-clause-port : goal.step-requires-clause-port
step-requires-clause-port g c = port_there g.N.LinkNode.meaning g.N.LinkNode.state c.args.at c.args.nodes.now.items c.place.result c.index_mut.result.now c.requires.here c.place.ensures c.index_mut.ensures.value

pub returns-in_err-reply-clause-err : goal.returns-in_err-reply-clause-err
returns-in_err-reply-clause-err g c =
    on_err c.from_residual.result (same_states g.N.LinkNode.state c.args.nodes.now.items c.place.result c.index_mut.result.now c.step.new.self c.index_mut.ensures.value c.in_err-reply.ensures.err)

pub returns-clause-ok : goal.returns-clause-ok
returns-clause-ok g c = λ tree clock.
    stepped_is g.N.LinkNode.meaning g.N.LinkNode.state c.args.at.node (g.N.LinkNode.meaning.stepped c.args.now c.args.step (place_of c.args.at.port)) tree clock c.args.nodes.now.items c.place.result c.index_mut.result.now c.step.new.self
    c.in_ok-reply.reply c.requires.here.some c.requires.here.few c.place.ensures c.index_mut.ensures.value c.in_ok-reply.ensures.ok
