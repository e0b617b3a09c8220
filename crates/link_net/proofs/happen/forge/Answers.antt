use Rattle.std.proofs.Common.{map, sym, ap, subst, ◌∙◌}
use Rattle.srp_base.specs.declared.numbers.Cs.{Cs}
use Rattle.srp_base.specs.declared.numbers.EgressPort.{EgressPort}
use Rattle.tree_topology.specs.Ports.{peer_of}
use Rattle.link_net.specs.{StandsAt, net_with, after_forgery}
use Rattle.link_net.proofs.Acting.{place_there, forge_is}
use Rattle.link_net.proofs.happen.forge.Goals as goal

pub returns-then-not-reaches-clause-ok : goal.returns-then-not-reaches-clause-ok
returns-then-not-reaches-clause-ok g c = λ clock.
    ap (λ b. after_forgery g.N.LinkNode.meaning c.args.at c.args.index c.args.pdu b (net_with c.args.tree.now clock (map g.N.LinkNode.state c.args.nodes.now.items)))
    (sym (c.reaches.ensures c.args.tree.now clock) ∙ c.if-not-reaches.true)

pub forge_at-requires-clause-reaches : goal.forge_at-requires-clause-reaches
forge_at-requires-clause-reaches g c =
    let clock : Cs = record { 0 = 0 } in
    place_there g.N.LinkNode.meaning c.args.at c.args.index c.args.tree.now clock (map g.N.LinkNode.state c.args.nodes.now.items) (sym (c.reaches.ensures c.args.tree.now clock) ∙ c.if-not-reaches.false)

pub spoil-requires : goal.spoil-requires
spoil-requires g c =
    subst (λ (p : EgressPort). StandsAt g.N.LinkNode.meaning p (map g.N.LinkNode.state c.forge_at.new.nodes.items)) (sym c.peer.ensures)
    (c.in_ok-forge_at.ensures.stand (peer_of c.args.tree.now.links c.args.at) c.requires.there)

pub returns-clause-ok : goal.returns-clause-ok
returns-clause-ok g c = λ clock.
    ap (λ b. after_forgery g.N.LinkNode.meaning c.args.at c.args.index c.args.pdu b (net_with c.args.tree.now clock (map g.N.LinkNode.state c.args.nodes.now.items)))
    (sym (c.reaches.ensures c.args.tree.now clock) ∙ c.if-not-reaches.false)
    ∙ forge_is g.N.LinkNode.meaning c.args.at c.peer.result c.args.index c.args.pdu c.name_of-name.result c.args.tree.now clock (map g.N.LinkNode.state c.args.nodes.now.items)
    (map g.N.LinkNode.state c.forge_at.new.nodes.items) (map g.N.LinkNode.state c.spoil.new.nodes.items) c.peer.ensures c.name_of-name.ensures c.in_ok-forge_at.ensures.after c.spoil.ensures
