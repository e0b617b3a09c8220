use Rattle.plan_file.specs.{declares_at}
use Rattle.plan_file.proofs.EventLemmas.{each-step}
use Rattle.plan_file.proofs.events.put_all_declares.Goals as goal

pub loop-i-preserved : goal.loop-i-preserved
loop-i-preserved c =
    each-step (declares_at c.args.streams.now c.args.vids.now) c.args.nodes.now c.loop-i.i c.loop-i.out.items c.put_declares.new.out.items _
    c.loop-i-test.true c.in_ok-put_declares.ensures c.loop-i.invariant
