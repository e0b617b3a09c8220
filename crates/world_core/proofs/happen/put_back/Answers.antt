use Rattle.attribute_propagation.specs.Ports.{place_of}
use Rattle.node_core.specs.Links.{with_outbox}
use Rattle.world_core.proofs.Happenings.{port_there, get_there, changed_here}
use Rattle.world_core.proofs.happen.put_back.Goals as goal

pub put_back-requires-clause-port : goal.put_back-requires-clause-port
put_back-requires-clause-port c = port_there c.args.at c.args.nodes.now.items c.place.result c.index_mut.result.now c.requires.here c.place.ensures c.index_mut.ensures.value

pub put_back-requires-clause-empty : goal.put_back-requires-clause-empty
put_back-requires-clause-empty c = c.requires.empty c.index_mut.result.now.state
    (get_there c.args.at c.args.nodes.now.items c.place.result c.index_mut.result.now c.requires.here c.place.ensures c.index_mut.ensures.value)

pub returns : goal.returns
returns c =
    changed_here c.args.at (with_outbox (place_of c.args.at.port) c.args.wires) c.args.nodes.now.items c.place.result c.index_mut.result.now c.put_back.new.self
    c.requires.here c.place.ensures c.index_mut.ensures.value c.put_back.ensures
