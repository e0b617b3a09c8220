use Rattle.std.proofs.Common.{◌≡◌, map, refl, sym, ap, subst, ◌∙◌}
use Rattle.srp_base.specs.declared.numbers.EgressPort.{EgressPort}
use Rattle.tree_topology.specs.Ports.{peer_of}
use Rattle.attribute_propagation.specs.Ports.{place_of}
use Rattle.link_net.specs.declared.events.NetReply.TheVariants.{Done}
use Rattle.link_net.specs.{NetState, Happened, StandsAt, nodes_with}
use Rattle.link_net.proofs.Acting.{carry_nothing, empty_there, put_back_is}
use Rattle.link_net.proofs.happen.carry.Goals as goal

pub returns-then-is_empty-clause-ok : goal.returns-then-is_empty-clause-ok
returns-then-is_empty-clause-ok g c = λ clock.
    ap (λ (w : NetState g.N.LinkNode.meaning.State). let h : Happened g.N.LinkNode.meaning.State g.row.N-Reply.Denot = (w, Done) in h)
    (carry_nothing g.N.LinkNode.meaning c.keeps_laws.ensures c.args.at c.args.tree.now clock (map g.N.LinkNode.state c.args.nodes.now.items) (map g.N.LinkNode.state c.take-pdus.new.nodes.items)
    c.take-pdus.result c.take-pdus.ensures.taken (c.if-is_empty.ensures.0 refl) c.take-pdus.ensures.after)

pub give-requires-clause-here : goal.give-requires-clause-here
give-requires-clause-here g c =
    subst (λ (p : EgressPort). StandsAt g.N.LinkNode.meaning p (map g.N.LinkNode.state c.take-pdus.new.nodes.items)) (sym c.peer.ensures)
    (c.take-pdus.ensures.stand (peer_of c.args.tree.now.links c.args.at) c.requires.there)

pub put_back-requires-clause-here : goal.put_back-requires-clause-here
put_back-requires-clause-here g c =
    subst (StandsAt g.N.LinkNode.meaning c.args.at) (sym c.in-Err.ensures.err) (c.take-pdus.ensures.stand c.args.at c.requires.here)

pub put_back-requires-clause-empty : goal.put_back-requires-clause-empty
put_back-requires-clause-empty g c =
    empty_there g.N.LinkNode.meaning c.keeps_laws.ensures c.args.at (map g.N.LinkNode.state c.args.nodes.now.items) (map g.N.LinkNode.state c.give.new.nodes.items)
    (c.in-Err.ensures.err ∙ c.take-pdus.ensures.after)

pub returns-in-Err-clause-err : goal.returns-in-Err-clause-err
returns-in-Err-clause-err g c =
    put_back_is g.N.LinkNode.meaning c.keeps_laws.ensures c.args.at (map g.N.LinkNode.state c.args.nodes.now.items) (map g.N.LinkNode.state c.take-pdus.new.nodes.items)
    (map g.N.LinkNode.state c.put_back.new.nodes.items) c.in-Err.pdus
    (let back : c.in-Err.pdus ≡ c.take-pdus.result = c.in-Err.ensures.back in back ∙ c.take-pdus.ensures.taken) c.take-pdus.ensures.after
    (c.put_back.ensures ∙ ap (nodes_with c.args.at.node (g.N.LinkNode.meaning.with_outbox (place_of c.args.at.port) c.in-Err.pdus)) c.in-Err.ensures.err)
