use Rattle.srp_base.proofs.Arithmetic.{on_err}
use Rattle.attribute_propagation.specs.Ports.{place_of}
use Rattle.link_net.specs.{repeated_at}
use Rattle.link_net.proofs.Acting.{port_there, get_there, changed_here, same_states}
use Rattle.link_net.proofs.happen.repeat_at.Goals as goal

pub repeat-requires-clause-port : goal.repeat-requires-clause-port
repeat-requires-clause-port g c = port_there g.N.LinkNode.meaning g.N.LinkNode.state c.args.at c.args.nodes.now.items c.place.result c.index_mut.result.now c.requires.here c.place.ensures c.index_mut.ensures.value

pub repeat-requires-clause-there : goal.repeat-requires-clause-there
repeat-requires-clause-there g c = c.requires.there (g.N.LinkNode.state c.index_mut.result.now)
    (get_there g.N.LinkNode.meaning g.N.LinkNode.state c.args.at c.args.nodes.now.items c.place.result c.index_mut.result.now c.requires.here c.place.ensures c.index_mut.ensures.value)

pub returns-clause-ok : goal.returns-clause-ok
returns-clause-ok g c =
    changed_here g.N.LinkNode.meaning g.N.LinkNode.state c.args.at c.args.nodes.now.items c.place.result c.index_mut.result.now c.requires.here c.place.ensures c.index_mut.ensures.value
    (repeated_at g.N.LinkNode.meaning (place_of c.args.at.port) c.args.index) c.repeat.new.self c.in_ok-repeat.ensures.ok

pub returns-in_err-repeat-clause-err : goal.returns-in_err-repeat-clause-err
returns-in_err-repeat-clause-err g c =
    on_err c.from_residual.result (same_states g.N.LinkNode.state c.args.nodes.now.items c.place.result c.index_mut.result.now c.repeat.new.self c.index_mut.ensures.value c.in_err-repeat.ensures.err)
