use Rattle.port_ledger.proofs.{Finding.blank, Walks.all-more}
use Rattle.port_ledger.proofs.changed.note_all.Goals as goal

pub loop-x-preserved : goal.loop-x-preserved
loop-x-preserved c = all-more c.args.entries.now c.loop-x.x-index blank c.loop-x-test.true _ _ _ c.loop-x.invariant c.in_ok-note.ensures
