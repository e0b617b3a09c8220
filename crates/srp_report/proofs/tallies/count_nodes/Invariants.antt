use Rattle.std.proofs.Common.{◌≡◌, drop}
use Rattle.srp_report.specs.{nodes_counted}
use Rattle.srp_report.proofs.tallies.count_nodes.Given as goal

-- what is left to count leads to what all leads to
abbrev pub invariant-loop-steps : goal.invariant-loop-steps
invariant-loop-steps l = nodes_counted l.fn.nodes.items l.made ≡ nodes_counted l.nodes.items (drop l.steps-index l.made)
