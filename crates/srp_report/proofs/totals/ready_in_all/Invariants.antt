use Rattle.std.proofs.Common.{◌≡◌, take}
use Rattle.std.specs.Prelude.{sum_by}
use Rattle.report_words.specs.Tally.{count_of}
use Rattle.srp_report.specs.{ready_at}
use Rattle.srp_report.proofs.totals.ready_in_all.Given as goal

abbrev pub invariant-loop-i : goal.invariant-loop-i
invariant-loop-i l = l.count ≡ count_of (sum_by (ready_at l.scenario.streams) (take l.i l.world.nodes))
