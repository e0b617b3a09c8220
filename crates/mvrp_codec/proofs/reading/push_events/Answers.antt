use Rattle.mvrp_codec.proofs.ReadingLemmas.{events_end, events_go_on, events_stop}
use Rattle.mvrp_codec.proofs.reading.push_events.Goals as goal

pub returns-then-number-gt4094 : goal.returns-then-number-gt4094
returns-then-number-gt4094 c = events_stop c.loop-octet.out.items _ c.loop-octet.number _ c.if-number-gt4094.true c.loop-octet.invariant

pub loop-octet-preserved : goal.loop-octet-preserved
loop-octet-preserved c =
    rw c.saturating_sub-left.ensures
    (events_go_on c.loop-octet.out.items c.push_octet.new.out.items _ c.loop-octet.number c.loop-octet.left c.loop-octet.octet-index c.args.packed.now
    c.loop-octet-test.true c.loop-octet.invariant c.in_ok-push_octet.ensures)

pub returns : goal.returns
returns c = events_end c.loop-octet.out.items _ c.loop-octet.number c.loop-octet.left c.loop-octet.octet-index c.args.packed.now c.loop-octet-test.false c.loop-octet.invariant
