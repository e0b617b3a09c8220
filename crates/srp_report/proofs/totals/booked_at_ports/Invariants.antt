use Rattle.std.proofs.Common.{◌≡◌, take}
use Rattle.std.specs.Prelude.{sum_by}
use Rattle.report_words.specs.Tally.{count_of}
use Rattle.srp_report.specs.{booked_at}
use Rattle.srp_report.proofs.totals.booked_at_ports.Given as goal

abbrev pub invariant-loop-i : goal.invariant-loop-i
invariant-loop-i l = l.count ≡ count_of (sum_by (booked_at l.world) (take l.i l.ports))
