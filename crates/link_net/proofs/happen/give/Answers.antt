use Rattle.srp_base.proofs.Arithmetic.{on_ok}
use Rattle.attribute_propagation.specs.Ports.{place_of}
use Rattle.link_net.specs.{carried_at}
use Rattle.link_net.proofs.Acting.{port_there, changed_here, same_states, still_on_err}
use Rattle.link_net.proofs.happen.give.Goals as goal

pub put_in-requires-clause-port : goal.put_in-requires-clause-port
put_in-requires-clause-port g c = port_there g.N.LinkNode.meaning g.N.LinkNode.state c.args.at c.args.nodes.now.items c.place.result c.index_mut.result.now c.requires.here c.place.ensures c.index_mut.ensures.value

pub returns-clause-ok : goal.returns-clause-ok
returns-clause-ok g c =
    on_ok c.put_in.result
    (changed_here g.N.LinkNode.meaning g.N.LinkNode.state c.args.at c.args.nodes.now.items c.place.result c.index_mut.result.now c.requires.here c.place.ensures c.index_mut.ensures.value
    (carried_at g.N.LinkNode.meaning (place_of c.args.at.port) c.args.pdus) c.put_in.new.self) c.put_in.ensures.ok

pub returns-clause-err : goal.returns-clause-err
returns-clause-err g c =
    still_on_err c.put_in.result
    (same_states g.N.LinkNode.state c.args.nodes.now.items c.place.result c.index_mut.result.now c.put_in.new.self c.index_mut.ensures.value) c.put_in.ensures.err
