use Rattle.srp_schedule.proofs.OrderLemmas.{turn_more}
use Rattle.srp_schedule.proofs.order.push_turn.Goals as goal

pub loop-at-preserved : goal.loop-at-preserved
loop-at-preserved c =
    turn_more c.args.turn c.loop-at.at c.args.jobs.now c.as_slice.result.now c.index-jobs-at.result _ _ _ c.loop-at-test.true c.as_slice.ensures c.index-jobs-at.is c.in_ok-push_steps.ensures
    c.loop-at.invariant
