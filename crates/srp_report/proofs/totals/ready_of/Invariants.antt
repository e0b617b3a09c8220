use Rattle.std.proofs.Common.{◌≡◌, take}
use Rattle.std.specs.Prelude.{count_by}
use Rattle.srp_report.specs.{hears_ready}
use Rattle.srp_report.proofs.totals.ready_of.Given as goal

abbrev pub invariant-loop-entry : goal.invariant-loop-entry
invariant-loop-entry l = l.count ≡ count_by (hears_ready l.node.state) (take l.entry-index l.streams)
