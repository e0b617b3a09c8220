use Rattle.std.proofs.Common.{ap}
use Rattle.attribute_propagation.specs.Ports.{place_of}
use Rattle.node_core.specs.{Links.lost_at, State.ports_of}
use Rattle.world_core.proofs.Happenings.{port_there, get_there, changed_here, stands_still, done_there}
use Rattle.world_core.proofs.happen.lose_at.Goals as goal

pub lose-requires : goal.lose-requires
lose-requires c = port_there c.args.at c.args.nodes.now.items c.place.result c.index_mut.result.now c.requires.here c.place.ensures c.index_mut.ensures.value

pub returns-clause-after : goal.returns-clause-after
returns-clause-after c =
    changed_here c.args.at (lost_at (place_of c.args.at.port) c.args.index) c.args.nodes.now.items c.place.result c.index_mut.result.now c.lose.new.self
    c.requires.here c.place.ensures c.index_mut.ensures.value
    (done_there c.index_mut.result.now.state c.lose.new.self.state (place_of c.args.at.port) c.args.index (lost_at (place_of c.args.at.port) c.args.index) c.lose.result
    (c.requires.there c.index_mut.result.now.state (get_there c.args.at c.args.nodes.now.items c.place.result c.index_mut.result.now c.requires.here c.place.ensures c.index_mut.ensures.value))
    c.lose.ensures.done c.lose.ensures.after)

pub returns-clause-stand : goal.returns-clause-stand
returns-clause-stand c =
    stands_still c.args.at c.args.nodes.now.items c.place.result c.index_mut.result.now c.lose.new.self c.requires.here c.place.ensures c.index_mut.ensures.value
    (ap ports_of (done_there c.index_mut.result.now.state c.lose.new.self.state (place_of c.args.at.port) c.args.index (lost_at (place_of c.args.at.port) c.args.index) c.lose.result
    (c.requires.there c.index_mut.result.now.state (get_there c.args.at c.args.nodes.now.items c.place.result c.index_mut.result.now c.requires.here c.place.ensures c.index_mut.ensures.value))
    c.lose.ensures.done c.lose.ensures.after))
