-- The sum so far and the rest are all, up to the limit.
use Rattle.std.proofs.Common.{◌≡◌, ◌+◌, ◌^◌, ◌≤◌, drop}
use Rattle.std.specs.Prelude.{min}
use Rattle.delay_bound.specs.Bounds.{bases_of}
use Rattle.delay_bound.proofs.heights.bases_upto.Given as goal

abbrev pub invariant-loop-group : goal.invariant-loop-group
invariant-loop-group l =
    record {
      whole : min (l.sum + bases_of (drop l.group-index l.groups)) (2 ^ 126) ≡ min (bases_of l.groups) (2 ^ 126);
      small : l.sum ≤ 2 ^ 126;
    }
