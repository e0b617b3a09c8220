use Rattle.std.proofs.Common.{◌<◌, length, arith}
use Rattle.link_capture.proofs.TickLemmas.{events_more}
use Rattle.link_capture.proofs.ticks.step_events.Goals as goal

pub loop-made-preserved : goal.loop-made-preserved
loop-made-preserved c =
    let test = c.loop-made-test.true in
    let below : c.loop-made.made-index < length c.args.steps.now = omega (arith, test) in
    events_more c.args.steps.now c.loop-made.made-index c.made-item.result c.as_slice.result.now c.loop-made.events.items c.put_steps.new.events.items below c.made-item.is c.as_slice.ensures
    c.in_ok-put_steps.ensures c.loop-made.invariant
