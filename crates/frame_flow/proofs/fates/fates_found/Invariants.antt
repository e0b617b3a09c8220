use Rattle.std.proofs.Common.{◌≡◌, take}
use Rattle.frame_flow.specs.{fates_by}
use Rattle.frame_flow.proofs.fates.fates_found.Given as goal

abbrev pub invariant-loop-number : goal.invariant-loop-number
invariant-loop-number g l = l.fates.items ≡ fates_by (g.S.Sent.departures l.sent) (take l.number-index l.verdicts)
