use Rattle.attribute_propagation.specs.Ports.{place_of}
use Rattle.link_net.proofs.Acting.{port_there, get_there, changed_here}
use Rattle.link_net.proofs.happen.put_back.Goals as goal

pub put_back-requires-clause-port : goal.put_back-requires-clause-port
put_back-requires-clause-port g c = port_there g.N.LinkNode.meaning g.N.LinkNode.state c.args.at c.args.nodes.now.items c.place.result c.index_mut.result.now c.requires.here c.place.ensures c.index_mut.ensures.value

pub put_back-requires-clause-empty : goal.put_back-requires-clause-empty
put_back-requires-clause-empty g c = c.requires.empty (g.N.LinkNode.state c.index_mut.result.now)
    (get_there g.N.LinkNode.meaning g.N.LinkNode.state c.args.at c.args.nodes.now.items c.place.result c.index_mut.result.now c.requires.here c.place.ensures c.index_mut.ensures.value)

pub returns : goal.returns
returns g c =
    changed_here g.N.LinkNode.meaning g.N.LinkNode.state c.args.at c.args.nodes.now.items c.place.result c.index_mut.result.now c.requires.here c.place.ensures c.index_mut.ensures.value
    (g.N.LinkNode.meaning.with_outbox (place_of c.args.at.port) c.args.pdus) c.put_back.new.self c.put_back.ensures
