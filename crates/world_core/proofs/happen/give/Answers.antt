use Rattle.srp_base.proofs.Arithmetic.{on_ok}
use Rattle.attribute_propagation.specs.Ports.{place_of}
use Rattle.node_core.specs.Links.{with_carried}
use Rattle.world_core.proofs.Happenings.{port_there, changed_here, same_states, still_on_err}
use Rattle.world_core.proofs.happen.give.Goals as goal

pub put_in-requires-clause-port : goal.put_in-requires-clause-port
put_in-requires-clause-port c = port_there c.args.at c.args.nodes.now.items c.place.result c.index_mut.result.now c.requires.here c.place.ensures c.index_mut.ensures.value

pub returns-clause-ok : goal.returns-clause-ok
returns-clause-ok c =
    on_ok c.put_in.result (changed_here c.args.at (with_carried (place_of c.args.at.port) c.args.wires) c.args.nodes.now.items c.place.result
    c.index_mut.result.now c.put_in.new.self c.requires.here c.place.ensures c.index_mut.ensures.value) c.put_in.ensures.ok

pub returns-clause-err : goal.returns-clause-err
returns-clause-err c =
    still_on_err c.put_in.result (same_states c.args.nodes.now.items c.place.result c.index_mut.result.now c.put_in.new.self c.index_mut.ensures.value) c.put_in.ensures.err
