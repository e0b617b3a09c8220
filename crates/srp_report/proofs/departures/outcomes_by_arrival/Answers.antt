use Rattle.std.proofs.Common.{◌+◌, ◌<◌, refl, sym, subst, take, arith}
use Rattle.std.proofs.lemmas.List.{length-take-le}
use Rattle.srp_report.specs.{FateCounts}
use Rattle.srp_report.proofs.FateLemmas.{counts-few, counts-more, sent-more}
use Rattle.srp_report.proofs.departures.outcomes_by_arrival.Goals as goal

pub with-counts-requires : goal.with-counts-requires
with-counts-requires c =
    let fates = c.as_slice-number-items.result.now in
    let i = c.loop-number.number-index in
    let P : FateCounts → Type 0 = λ t. t.departed + t.unbooked + t.novlan + t.left + 1 < 18446744073709551616 in
    subst P (sym c.loop-number.invariant.counts)
    (omega (arith, counts-few (take i fates), length-take-le i fates (omega (arith, c.loop-number-test.true)), c.loop-number-test.true, c.loop-number.auto.number-index-end))

pub loop-number-preserved : goal.loop-number-preserved
loop-number-preserved c =
    let fates = c.as_slice-number-items.result.now in
    let i = c.loop-number.number-index in
    record {
      counts = counts-more fates i _ _ _ _ c.loop-number-test.true refl c.loop-number.invariant.counts c.with-counts.ensures;
      sent = sent-more fates i _ _ _ _ c.loop-number-test.true refl c.loop-number.invariant.sent c.in_ok-add_sent.ensures;
    }
