use Rattle.std.proofs.Common.{sym, ap, subst, ◌∙◌}
use Rattle.attribute_propagation.specs.Ports.{IsLinkPort, place_of}
use Rattle.link_net.specs.{without, lost_at}
use Rattle.link_net.proofs.Acting.{port_there, get_there, changed_here, stands_still}
use Rattle.link_net.proofs.happen.lose_at.Goals as goal

pub lose-requires-clause-port : goal.lose-requires-clause-port
lose-requires-clause-port g c = port_there g.N.LinkNode.meaning g.N.LinkNode.state c.args.at c.args.nodes.now.items c.place.result c.index_mut-node.result.now c.requires.here c.place.ensures c.index_mut-node.ensures.value

pub lose-requires-clause-there : goal.lose-requires-clause-there
lose-requires-clause-there g c = c.requires.there (g.N.LinkNode.state c.index_mut-node.result.now)
    (get_there g.N.LinkNode.meaning g.N.LinkNode.state c.args.at c.args.nodes.now.items c.place.result c.index_mut-node.result.now c.requires.here c.place.ensures c.index_mut-node.ensures.value)

pub spoil-requires : goal.spoil-requires
spoil-requires g c =
    let node = g.N.LinkNode.meaning in
    let s = g.N.LinkNode.state c.index_mut-node.result.now in
    let at = place_of c.args.at.port in
    let same = ap node.ports_of c.lose.ensures ∙ (c.keeps_laws.ensures.places.inbox at (without c.args.index (node.inbox at s))).ports s in
    subst (IsLinkPort c.args.at.port) (sym same)
    (port_there g.N.LinkNode.meaning g.N.LinkNode.state c.args.at c.args.nodes.now.items c.place.result c.index_mut-node.result.now c.requires.here c.place.ensures c.index_mut-node.ensures.value)

pub returns-clause-after : goal.returns-clause-after
returns-clause-after g c =
    let node = g.N.LinkNode.meaning in
    let at = place_of c.args.at.port in
    changed_here g.N.LinkNode.meaning g.N.LinkNode.state c.args.at c.args.nodes.now.items c.place.result c.index_mut-node.result.now c.requires.here c.place.ensures c.index_mut-node.ensures.value
    (λ s. node.spoilt c.args.name at (lost_at node at c.args.index s)) c.spoil.new.self (c.spoil.ensures ∙ ap (node.spoilt c.args.name at) c.lose.ensures)

pub returns-clause-stand : goal.returns-clause-stand
returns-clause-stand g c =
    let node = g.N.LinkNode.meaning in
    let s = g.N.LinkNode.state c.index_mut-node.result.now in
    let at = place_of c.args.at.port in
    let laws = c.keeps_laws.ensures.places in
    stands_still g.N.LinkNode.meaning g.N.LinkNode.state c.args.at c.args.nodes.now.items c.place.result c.index_mut-node.result.now c.requires.here c.place.ensures c.index_mut-node.ensures.value
    c.spoil.new.self
    (ap node.ports_of c.spoil.ensures ∙ ((laws.spoils c.args.name at).ports (g.N.LinkNode.state c.lose.new.self)
    ∙ (ap node.ports_of c.lose.ensures ∙ (laws.inbox at (without c.args.index (node.inbox at s))).ports s)))
