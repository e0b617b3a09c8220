use Rattle.std.proofs.Common.{◌∙◌}
use Rattle.port_ledger.proofs.{Finding.blank, Walks.booked-ends, Walks.booked-more, Walks.booked-over}
use Rattle.port_ledger.proofs.entries.bookings.Goals as goal

pub loop-x-preserved-then-is_none : goal.loop-x-preserved-then-is_none
loop-x-preserved-then-is_none c = booked-over c.args.entries.now c.loop-x.x-index blank c.loop-x-test.true _ _ c.loop-x.invariant c.if-is_none.ensures

pub loop-x-preserved : goal.loop-x-preserved
loop-x-preserved c = booked-more c.args.entries.now c.loop-x.x-index blank c.loop-x-test.true _ _ _ c.loop-x.invariant c.if-is_none.ensures c.in_ok-push.ensures.items

pub returns : goal.returns
returns c = c.from_vec.ensures ∙ booked-ends c.args.entries.now c.loop-x.x-index c.loop-x-test.false _ _ c.loop-x.invariant
