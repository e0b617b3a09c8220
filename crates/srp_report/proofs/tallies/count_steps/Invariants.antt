use Rattle.std.proofs.Common.{◌≡◌, drop}
use Rattle.srp_report.specs.{steps_counted}
use Rattle.srp_report.proofs.tallies.count_steps.Given as goal

-- what is left to count leads to what all leads to
abbrev pub invariant-loop-step : goal.invariant-loop-step
invariant-loop-step l = steps_counted l.fn.ports.items l.made ≡ steps_counted l.ports.items (drop l.step-index l.made)
