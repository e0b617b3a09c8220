use Rattle.std.proofs.Common.{sym, ap, map, ◌∙◌}
use Rattle.srp_base.specs.declared.numbers.Cs.{Cs}
use Rattle.link_net.specs.{net_with, after_loss}
use Rattle.link_net.proofs.Acting.{index_there, lose_is}
use Rattle.link_net.proofs.happen.lose.Goals as goal

pub returns-in-None : goal.returns-in-None
returns-in-None g c = λ clock.
    ap (λ o. after_loss g.N.LinkNode.meaning c.args.at c.args.index o (net_with c.args.tree.now clock (map g.N.LinkNode.state c.args.nodes.now.items)))
    (sym (c.name_in.ensures c.args.tree.now clock) ∙ c.in-None.is)

pub lose_at-requires-clause-there : goal.lose_at-requires-clause-there
lose_at-requires-clause-there g c =
    let clock : Cs = record { 0 = 0 } in
    index_there g.N.LinkNode.meaning c.args.at c.args.index c.args.tree.now clock (map g.N.LinkNode.state c.args.nodes.now.items) c.in-Some.name
    (sym (c.name_in.ensures c.args.tree.now clock) ∙ c.in-Some.is)

pub returns-in-Some : goal.returns-in-Some
returns-in-Some g c = λ clock.
    ap (λ o. after_loss g.N.LinkNode.meaning c.args.at c.args.index o (net_with c.args.tree.now clock (map g.N.LinkNode.state c.args.nodes.now.items)))
    (sym (c.name_in.ensures c.args.tree.now clock) ∙ c.in-Some.is)
    ∙ lose_is g.N.LinkNode.meaning c.args.at c.peer.result c.args.index c.in-Some.name c.args.tree.now clock (map g.N.LinkNode.state c.args.nodes.now.items)
    (map g.N.LinkNode.state c.lose_at.new.nodes.items) (map g.N.LinkNode.state c.spoil.new.nodes.items) c.peer.ensures c.lose_at.ensures.after c.spoil.ensures
