use Rattle.srp_base.proofs.Arithmetic.{on_err}
use Rattle.world_core.proofs.Happenings.{stepped_is, same_states}
use Rattle.world_core.proofs.happen.make_step.Goals as goal

pub returns-in_err-reply-clause-err : goal.returns-in_err-reply-clause-err
returns-in_err-reply-clause-err c =
    on_err c.from_residual.result (same_states c.args.nodes.now.items c.place.result c.index_mut.result.now c.step.new.self c.index_mut.ensures.value c.in_err-reply.ensures.err)

pub returns-clause-ok : goal.returns-clause-ok
returns-clause-ok c = λ tree marks.
    stepped_is c.args.number c.args.event tree marks c.args.nodes.now.items c.place.result c.index_mut.result.now c.step.new.self c.in_ok-reply.reply
    c.requires.some c.requires.few c.place.ensures c.index_mut.ensures.value c.in_ok-reply.ensures.ok
