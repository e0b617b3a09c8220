use Rattle.std.proofs.Common.{◌+◌, ◌-◌, ◌≡◌, ◌≤◌, length}
use Rattle.std.specs.Io.KnownBytes.{Consumes}
use Rattle.srp_io.proofs.whole.read_all.Given as goal

abbrev pub invariant-loop-chunk : goal.invariant-loop-chunk
invariant-loop-chunk g l = record {
  consumed : Consumes (g.S.Source.left l.initial.source) (g.S.Source.left l.source) l.octets.items;
  counts : g.S.Source.faults l.source ≡ g.S.Source.faults l.initial.source;
  within : length l.octets.items ≤ l.limit + 1;
}

abbrev pub decreases-loop-chunk : goal.decreases-loop-chunk
decreases-loop-chunk g l = l.limit + 1 - length l.octets.items
