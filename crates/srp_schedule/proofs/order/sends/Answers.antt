use Rattle.srp_schedule.proofs.OrderLemmas.{sends_more}
use Rattle.srp_schedule.proofs.order.sends.Goals as goal

pub loop-at-preserved : goal.loop-at-preserved
loop-at-preserved c =
    sends_more c.loop-at.at c.args.ports c.loop-at.order.items c.push.new.self.items c.push-in-loop-at.new.self.items _ c.loop-at-test.true
    c.in_ok-push.ensures.items c.in_ok-push-2.ensures.items c.loop-at.invariant
