use Rattle.attribute_propagation.specs.Ports.{place_of}
use Rattle.link_net.proofs.Acting.{port_there, changed_here}
use Rattle.link_net.proofs.happen.spoil.Goals as goal

pub spoil-requires : goal.spoil-requires
spoil-requires g c = port_there g.N.LinkNode.meaning g.N.LinkNode.state c.args.at c.args.nodes.now.items c.place.result c.index_mut.result.now c.requires c.place.ensures c.index_mut.ensures.value

pub returns : goal.returns
returns g c =
    changed_here g.N.LinkNode.meaning g.N.LinkNode.state c.args.at c.args.nodes.now.items c.place.result c.index_mut.result.now c.requires c.place.ensures c.index_mut.ensures.value
    (g.N.LinkNode.meaning.spoilt c.args.name (place_of c.args.at.port)) c.spoil.new.self c.spoil.ensures
