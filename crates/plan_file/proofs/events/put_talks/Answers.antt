use Rattle.plan_file.proofs.EventLemmas.{talk-step}
use Rattle.plan_file.proofs.events.put_talks.Goals as goal

pub loop-i-preserved : goal.loop-i-preserved
loop-i-preserved c =
    talk-step c.args.streams.now c.loop-i.i c.loop-i.out.items c.push.new.self.items _ c.loop-i-test.true c.in_ok-push.ensures.items c.loop-i.invariant
