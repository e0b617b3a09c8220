use Rattle.std.proofs.Common.{refl}
use Rattle.srp_report.proofs.TotalLemmas.{total-more}
use Rattle.srp_report.proofs.totals.total_at.Goals as goal

pub loop-i-preserved : goal.loop-i-preserved
loop-i-preserved c =
    total-more c.args.ports.now c.args.ticks.now c.loop-i.i _ _ c.loop-i.total c.with-total.result c.tally_of_port.result c.loop-i-test.true refl
    c.loop-i.invariant c.tally_of_port.ensures c.with-total.ensures
