use Rattle.srp_base.proofs.Arithmetic.{on_err}
use Rattle.link_net.proofs.Acting.{there_at, stepped_is, same_states}
use Rattle.link_net.proofs.happen.ask.Goals as goal

pub ask-requires : goal.ask-requires
ask-requires g c =
    c.requires.can (g.N.LinkNode.state c.index_mut.result.now)
    (there_at g.N.LinkNode.state c.args.number.0 c.args.nodes.now.items c.place.result c.index_mut.result.now c.requires.some c.requires.few c.place.ensures c.index_mut.ensures.value)

pub returns-in_err-reply-clause-err : goal.returns-in_err-reply-clause-err
returns-in_err-reply-clause-err g c =
    on_err c.from_residual.result (same_states g.N.LinkNode.state c.args.nodes.now.items c.place.result c.index_mut.result.now c.ask.new.self c.index_mut.ensures.value c.in_err-reply.ensures.err)

pub returns-clause-ok : goal.returns-clause-ok
returns-clause-ok g c = λ tree clock.
    stepped_is g.N.LinkNode.meaning g.N.LinkNode.state c.args.number (g.N.LinkNode.meaning.asked c.args.request) tree clock c.args.nodes.now.items c.place.result c.index_mut.result.now c.ask.new.self c.in_ok-reply.reply
    c.requires.some c.requires.few c.place.ensures c.index_mut.ensures.value c.in_ok-reply.ensures.ok
