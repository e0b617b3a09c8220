use Rattle.std.proofs.Common.{◌≡◌, take}
use Rattle.srp_report.specs.{tally_of, replies_of_ports}
use Rattle.srp_report.proofs.totals.total_at.Given as goal

abbrev pub invariant-loop-i : goal.invariant-loop-i
invariant-loop-i l = l.total ≡ tally_of (replies_of_ports (take l.i l.ports) l.ticks)
