use Rattle.std.proofs.Common.{get_or, refl, sym, ◌∙◌}
use Rattle.stream_importance.specs.declared.entry.Entry.{Entry}
use Rattle.port_ledger.proofs.{Finding.blank, Merging.begins-some, Merging.walk-booked, Merging.walk-dropped, Merging.walk-notes, Merging.walk-shares, Merging.walk-starts}
use Rattle.port_ledger.proofs.changed.changes.Goals as goal

pub loop-x-init : goal.loop-x-init
loop-x-init c = walk-starts _ _ _ _ c.new-booked.ensures.items c.new-dropped.ensures.items c.requires.before c.requires.after

pub tail-rest-requires : goal.tail-rest-requires
tail-rest-requires c = begins-some _ _ (sym c.begins_with.ensures ∙ c.if-begins_with.true)

pub loop-x-preserved-then-begins_with : goal.loop-x-preserved-then-begins_with
loop-x-preserved-then-begins_with c =
    let x : Entry = get_or c.args.after.now c.loop-x.x-index blank in
    walk-shares c.args.before.now c.args.after.now c.loop-x.x-index x blank c.loop-x.booked.items c.loop-x.dropped.items c.loop-x.rest.now c.from_stream-rest.result.now
    c.loop-x-test.true refl c.from_stream-rest.ensures c.loop-x.invariant _ _ (sym c.begins_with.ensures ∙ c.if-begins_with.true) c.tail-rest.ensures c.in_ok-note_below.ensures

pub loop-x-preserved : goal.loop-x-preserved
loop-x-preserved c =
    let x : Entry = get_or c.args.after.now c.loop-x.x-index blank in
    walk-notes c.args.before.now c.args.after.now c.loop-x.x-index x blank c.loop-x.booked.items c.loop-x.dropped.items c.loop-x.rest.now c.from_stream-rest.result.now
    c.loop-x-test.true refl c.from_stream-rest.ensures c.loop-x.invariant _ _ c.in_ok-note_below.ensures c.in_ok-note.ensures (sym c.begins_with.ensures ∙ c.if-begins_with.false)

pub returns-clause-booked : goal.returns-clause-booked
returns-clause-booked c = c.from_vec.ensures ∙ walk-booked _ _ _ _ _ _ c.loop-x-test.false c.loop-x.invariant

pub returns-clause-dropped : goal.returns-clause-dropped
returns-clause-dropped c = c.from_vec-2.ensures ∙ walk-dropped _ _ _ _ _ _ c.loop-x-test.false c.loop-x.invariant _ c.in_ok-note_all.ensures
