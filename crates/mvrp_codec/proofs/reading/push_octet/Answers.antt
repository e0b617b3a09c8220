use Rattle.std.proofs.Common.{arith, take}
use Rattle.mvrp_codec.proofs.ReadingLemmas.{event_more, octet_ends}
use Rattle.mvrp_codec.proofs.reading.push_octet.Goals as goal

pub loop-event-preserved : goal.loop-event-preserved
loop-event-preserved c = (
  event_more (take c.min.result c.events_in-events.result) c.loop-event.number c.loop-event.event-index _ c.loop-event.out.items c.push_event.new.out.items _
      c.loop-event-test.true c.loop-event.invariant.0 c.in_ok-push_event.ensures,
  omega (arith, c.loop-event.invariant.1),
)

pub returns : goal.returns
returns c =
    octet_ends c.args.octet c.args.n c.min.result c.events_in-events.result c.args.first c.loop-event.number c.loop-event.event-index c.args.out.now.items c.loop-event.out.items
    c.events_in-events.ensures c.min.ensures c.loop-event-test.false c.loop-event.invariant.0
