use Rattle.std.proofs.Common.{List, [], map, sym, ap, ◌∙◌}
use Rattle.srp_base.specs.declared.numbers.Cs.{Cs}
use Rattle.tree_topology.specs.Topology.{Topology}
use Rattle.link_net.specs.declared.events.NetReply.TheVariants.{Done}
use Rattle.link_net.specs.{Happened, net_with, after_repeat}
use Rattle.link_net.proofs.Acting.{index_there}
use Rattle.link_net.proofs.happen.repeat.Goals as goal

pub returns-in-None-clause-ok : goal.returns-in-None-clause-ok
returns-in-None-clause-ok g c = λ tree clock.
    ap (λ o. after_repeat g.N.LinkNode.meaning c.args.at c.args.index o (net_with tree clock (map g.N.LinkNode.state c.args.nodes.now.items)))
    (sym (c.name_in.ensures tree clock) ∙ c.in-None.is)

pub repeat_at-requires-clause-there : goal.repeat_at-requires-clause-there
repeat_at-requires-clause-there g c =
    let tree : Topology = record { kinds = []; links = [] } in
    let clock : Cs = record { 0 = 0 } in
    index_there g.N.LinkNode.meaning c.args.at c.args.index tree clock (map g.N.LinkNode.state c.args.nodes.now.items) _ (sym (c.name_in.ensures tree clock) ∙ c.in-Some.is)

pub returns-in_ok-repeat_at-in-Some-clause-ok : goal.returns-in_ok-repeat_at-in-Some-clause-ok
returns-in_ok-repeat_at-in-Some-clause-ok g c = λ tree clock.
    ap (λ o. after_repeat g.N.LinkNode.meaning c.args.at c.args.index o (net_with tree clock (map g.N.LinkNode.state c.args.nodes.now.items)))
    (sym (c.name_in.ensures tree clock) ∙ c.in-Some.is)
    ∙ ap (λ (ss : List g.N.LinkNode.meaning.State). let h : Happened g.N.LinkNode.meaning.State g.row.N-Reply.Denot = (net_with tree clock ss, Done) in h) (sym c.in_ok-repeat_at-in-Some.ensures.ok)
