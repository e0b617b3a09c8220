use Rattle.plan_file.specs.{listens_at}
use Rattle.plan_file.proofs.EventLemmas.{each-step}
use Rattle.plan_file.proofs.events.put_all_listens.Goals as goal

pub loop-i-preserved : goal.loop-i-preserved
loop-i-preserved c =
    each-step (λ x. listens_at x 1 c.args.streams.now) c.args.nodes.now c.loop-i.i c.loop-i.out.items c.put_listens.new.out.items _
    c.loop-i-test.true c.in_ok-put_listens.ensures c.loop-i.invariant
