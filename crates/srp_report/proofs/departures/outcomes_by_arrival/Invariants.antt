use Rattle.std.proofs.Common.{◌≡◌, take}
use Rattle.srp_report.specs.{sent_frames, fate_counts}
use Rattle.srp_report.proofs.departures.outcomes_by_arrival.Given as goal

abbrev pub invariant-loop-number : goal.invariant-loop-number
invariant-loop-number l = record {
  counts : l.counts ≡ fate_counts (take l.number-index l.number-items);
  sent : l.sent.items ≡ sent_frames (take l.number-index l.number-items);
}
