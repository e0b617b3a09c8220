use Rattle.std.proofs.Common.{get_or}
use Rattle.std.proofs.lemmas.List.{get_or_default}
use Rattle.stream_importance.specs.declared.entry.Entry.{Entry}
use Rattle.port_ledger.proofs.{Finding.blank, TotalsLemmas.walks-end, TotalsLemmas.walks-on}
use Rattle.port_ledger.proofs.totals.totals_of.Goals as goal

pub loop-x-preserved : goal.loop-x-preserved
loop-x-preserved c =
    let x : Entry = get_or c.args.entries.now c.loop-x.x-index blank in
    rw (c.slope_within-class_a.ensures, c.slope_within-class_b.ensures, c.new_within-new_count.ensures)
    (walks-on c.args.entries.now c.loop-x.x-index x c.loop-x-test.true (get_or_default c.args.entries.now c.loop-x.x-index blank x c.loop-x-test.true)
    c.args.moment.0 c.loop-x.class_a c.loop-x.class_b c.loop-x.new_count c.loop-x.invariant)

pub returns : goal.returns
returns c = walks-end c.args.moment.0 c.args.entries.now c.loop-x.class_a c.loop-x.class_b c.loop-x.new_count c.loop-x.x-index c.loop-x-test.false c.loop-x.invariant
