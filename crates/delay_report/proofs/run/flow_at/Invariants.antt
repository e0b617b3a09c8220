use Rattle.std.proofs.Common.{◌≡◌, drop}
use Rattle.frame_flow.specs.Copies.{flow_at}
use Rattle.delay_report.proofs.run.flow_at.Given as goal

-- what is found in the rest is what is found in all
abbrev pub invariant-loop-flow : goal.invariant-loop-flow
invariant-loop-flow l = flow_at (drop l.flow-index l.flows) l.at ≡ flow_at l.flows l.at
