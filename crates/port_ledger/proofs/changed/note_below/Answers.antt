use Rattle.port_ledger.proofs.{Finding.blank, Walks.below-more, Walks.below-ends}
use Rattle.port_ledger.proofs.changed.note_below.Goals as goal

pub returns-then-x-stream : goal.returns-then-x-stream
returns-then-x-stream c = below-ends c.args.entries.now c.loop-x.x-index blank c.loop-x-test.true c.args.stream _ _ c.loop-x.invariant c.if-x-stream.true

pub loop-x-preserved : goal.loop-x-preserved
loop-x-preserved c =
    below-more c.args.entries.now c.loop-x.x-index blank c.loop-x-test.true c.args.stream _ _ _ c.loop-x.invariant c.if-x-stream.false c.in_ok-note.ensures
