use Rattle.std.proofs.Common.{◌≡◌, ◌+◌, List, ℕ, suc, ◌<◌, ◌^◌, take, sym, subst, arith}
use Rattle.mmrp_codec.specs.{AreMacs, MacEvent}
use Rattle.mmrp_codec.proofs.WritingLemmas.{macs_more, octets_more}
use Rattle.mmrp_codec.proofs.writing.put_events.Goals as goal

pub loop-event-preserved : goal.loop-event-preserved
loop-event-preserved c =
    let events = c.args.events.now in
    let i = c.loop-event.event-index in
    let next : suc i ≡ i + 1 = omega arith in
    record {
      octets = octets_more c.loop-event.out.items c.put_event.new.out.items _ c.loop-event.leave events i c.event-item.result c.loop-event-test.true c.loop-event.invariant.octets
          (rw (sym c.event-item.is) c.in_ok-put_event.ensures.vector);
      macs = subst (λ (n : ℕ). AreMacs (take n events)) next
          (macs_more events i c.event-item.result c.loop-event-test.true c.loop-event.invariant.macs (subst (λ (x : MacEvent). x.1 < 2 ^ 48) c.event-item.is c.in_ok-put_event.ensures.mac));
    }
