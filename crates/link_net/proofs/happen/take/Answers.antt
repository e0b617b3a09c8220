use Rattle.std.proofs.Common.{[], sym, ap, ◌∙◌}
use Rattle.std.specs.Option.{option_map_or}
use Rattle.attribute_propagation.specs.Ports.{place_of}
use Rattle.link_net.proofs.Acting.{port_there, get_there, changed_here, stands_still}
use Rattle.link_net.proofs.happen.take.Goals as goal

pub take_out-requires : goal.take_out-requires
take_out-requires g c = port_there g.N.LinkNode.meaning g.N.LinkNode.state c.args.at c.args.nodes.now.items c.place.result c.index_mut.result.now c.requires c.place.ensures c.index_mut.ensures.value

pub returns-clause-after : goal.returns-clause-after
returns-clause-after g c =
    changed_here g.N.LinkNode.meaning g.N.LinkNode.state c.args.at c.args.nodes.now.items c.place.result c.index_mut.result.now c.requires c.place.ensures c.index_mut.ensures.value
    (g.N.LinkNode.meaning.with_outbox (place_of c.args.at.port) []) c.take_out.new.self c.take_out.ensures.after

pub returns-clause-taken : goal.returns-clause-taken
returns-clause-taken g c =
    c.take_out.ensures.taken
    ∙ sym (ap (λ o. option_map_or (g.N.LinkNode.meaning.outbox (place_of c.args.at.port)) o [])
    (get_there g.N.LinkNode.meaning g.N.LinkNode.state c.args.at c.args.nodes.now.items c.place.result c.index_mut.result.now c.requires c.place.ensures c.index_mut.ensures.value))

pub returns-clause-stand : goal.returns-clause-stand
returns-clause-stand g c =
    stands_still g.N.LinkNode.meaning g.N.LinkNode.state c.args.at c.args.nodes.now.items c.place.result c.index_mut.result.now c.requires c.place.ensures c.index_mut.ensures.value
    c.take_out.new.self
    (ap g.N.LinkNode.meaning.ports_of c.take_out.ensures.after ∙ (c.keeps_laws.ensures.places.outbox (place_of c.args.at.port) []).ports (g.N.LinkNode.state c.index_mut.result.now))
