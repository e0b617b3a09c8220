use Rattle.std.proofs.Common.{sym, ap, subst, ◌∙◌}
use Rattle.srp_base.proofs.Arithmetic.{on_err}
use Rattle.attribute_propagation.specs.Ports.{IsLinkPort, place_of}
use Rattle.link_net.specs.{with_one, forged_at}
use Rattle.link_net.proofs.Acting.{port_there, get_there, changed_here, stands_still, same_states}
use Rattle.link_net.proofs.happen.forge_at.Goals as goal

pub forge-requires-clause-port : goal.forge-requires-clause-port
forge-requires-clause-port g c = port_there g.N.LinkNode.meaning g.N.LinkNode.state c.args.at c.args.nodes.now.items c.place.result c.index_mut-node.result.now c.requires.here c.place.ensures c.index_mut-node.ensures.value

pub forge-requires-clause-reaches : goal.forge-requires-clause-reaches
forge-requires-clause-reaches g c = c.requires.reaches (g.N.LinkNode.state c.index_mut-node.result.now)
    (get_there g.N.LinkNode.meaning g.N.LinkNode.state c.args.at c.args.nodes.now.items c.place.result c.index_mut-node.result.now c.requires.here c.place.ensures c.index_mut-node.ensures.value)

pub returns-in_err-forge-clause-err : goal.returns-in_err-forge-clause-err
returns-in_err-forge-clause-err g c =
    on_err c.from_residual.result (same_states g.N.LinkNode.state c.args.nodes.now.items c.place.result c.index_mut-node.result.now c.forge.new.self c.index_mut-node.ensures.value c.in_err-forge.ensures.err)

pub spoil-requires : goal.spoil-requires
spoil-requires g c =
    let node = g.N.LinkNode.meaning in
    let s = g.N.LinkNode.state c.index_mut-node.result.now in
    let at = place_of c.args.at.port in
    let same = ap node.ports_of c.in_ok-forge.ensures.ok ∙ (c.keeps_laws.ensures.places.inbox at (with_one c.args.index c.args.pdu (node.inbox at s))).ports s in
    subst (IsLinkPort c.args.at.port) (sym same)
    (port_there g.N.LinkNode.meaning g.N.LinkNode.state c.args.at c.args.nodes.now.items c.place.result c.index_mut-node.result.now c.requires.here c.place.ensures c.index_mut-node.ensures.value)

pub returns-clause-after : goal.returns-clause-after
returns-clause-after g c =
    let node = g.N.LinkNode.meaning in
    let at = place_of c.args.at.port in
    changed_here g.N.LinkNode.meaning g.N.LinkNode.state c.args.at c.args.nodes.now.items c.place.result c.index_mut-node.result.now c.requires.here c.place.ensures c.index_mut-node.ensures.value
    (λ s. node.spoilt c.args.name at (forged_at node at c.args.index c.args.pdu s)) c.spoil.new.self (c.spoil.ensures ∙ ap (node.spoilt c.args.name at) c.in_ok-forge.ensures.ok)

pub returns-clause-stand : goal.returns-clause-stand
returns-clause-stand g c =
    let node = g.N.LinkNode.meaning in
    let s = g.N.LinkNode.state c.index_mut-node.result.now in
    let at = place_of c.args.at.port in
    let laws = c.keeps_laws.ensures.places in
    stands_still g.N.LinkNode.meaning g.N.LinkNode.state c.args.at c.args.nodes.now.items c.place.result c.index_mut-node.result.now c.requires.here c.place.ensures c.index_mut-node.ensures.value
    c.spoil.new.self
    (ap node.ports_of c.spoil.ensures ∙ ((laws.spoils c.args.name at).ports (g.N.LinkNode.state c.forge.new.self)
    ∙ (ap node.ports_of c.in_ok-forge.ensures.ok ∙ (laws.inbox at (with_one c.args.index c.args.pdu (node.inbox at s))).ports s)))
