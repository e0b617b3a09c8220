use Rattle.std.proofs.Common.{ap, ◌∙◌}
use Rattle.attribute_propagation.specs.Ports.{place_of}
use Rattle.node_core.specs.{Links.spoilt_at, State.ports_of}
use Rattle.world_core.proofs.Happenings.{port_there, changed_here, stands_still, ports_spoilt}
use Rattle.world_core.proofs.happen.spoil.Goals as goal

pub spoil-requires : goal.spoil-requires
spoil-requires c = port_there c.args.at c.args.nodes.now.items c.place.result c.index_mut.result.now c.requires c.place.ensures c.index_mut.ensures.value

pub returns-clause-after : goal.returns-clause-after
returns-clause-after c =
    changed_here c.args.at (spoilt_at c.args.app (place_of c.args.at.port)) c.args.nodes.now.items c.place.result c.index_mut.result.now c.spoil.new.self
    c.requires c.place.ensures c.index_mut.ensures.value c.spoil.ensures

pub returns-clause-stand : goal.returns-clause-stand
returns-clause-stand c =
    stands_still c.args.at c.args.nodes.now.items c.place.result c.index_mut.result.now c.spoil.new.self c.requires c.place.ensures c.index_mut.ensures.value
    (ap ports_of c.spoil.ensures ∙ ports_spoilt c.args.app (place_of c.args.at.port) c.index_mut.result.now.state)
