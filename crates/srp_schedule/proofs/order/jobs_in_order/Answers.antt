use Rattle.std.proofs.Common.{sym, ap, ◌∙◌}
use Rattle.srp_base.proofs.Arithmetic.{if_ok}
use Rattle.srp_schedule.specs.{order_of}
use Rattle.srp_schedule.proofs.OrderLemmas.{canonical_is}
use Rattle.srp_schedule.proofs.order.jobs_in_order.Goals as goal

pub returns-then-not-is_busy : goal.returns-then-not-is_busy
returns-then-not-is_busy c =
    if_ok c.quiet_jobs.result _ _ (λ v h. h ∙ sym (canonical_is c.args.number c.args.world.now c.node-node.result.now.state c.node-node.ensures)) c.quiet_jobs.ensures

pub returns : goal.returns
returns c =
    if_ok c.in_turns.result _ _
    (λ v h. h ∙ (ap order_of (c.as_slice.ensures.value ∙ c.in_ok-jobs.ensures.jobs) ∙ sym (canonical_is c.args.number c.args.world.now c.node-node.result.now.state c.node-node.ensures)))
    c.in_turns.ensures
