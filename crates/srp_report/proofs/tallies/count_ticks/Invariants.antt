use Rattle.std.proofs.Common.{◌≡◌, drop}
use Rattle.srp_report.specs.{ticks_counted}
use Rattle.srp_report.proofs.tallies.count_ticks.Given as goal

-- what is left to count leads to what all leads to
abbrev pub invariant-loop-tick : goal.invariant-loop-tick
invariant-loop-tick l = ticks_counted l.fn.nodes.items l.ticks ≡ ticks_counted l.nodes.items (drop l.tick-index l.ticks)
