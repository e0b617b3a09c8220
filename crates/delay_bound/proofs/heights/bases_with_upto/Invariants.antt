-- The sum so far and the rest are all, up to the limit.
use Rattle.std.proofs.Common.{◌≡◌, ◌+◌, ◌^◌, ◌≤◌, drop}
use Rattle.std.specs.Prelude.{min, sum_by}
use Rattle.delay_bound.specs.Bounds.{bases_with}
use Rattle.delay_bound.proofs.heights.bases_with_upto.Given as goal

abbrev pub invariant-loop-bound : goal.invariant-loop-bound
invariant-loop-bound l =
    record {
      whole : min (l.sum + sum_by (λ b. b.base) (drop l.bound-index l.more)) (2 ^ 126) ≡ min (bases_with l.first l.more) (2 ^ 126);
      small : l.sum ≤ 2 ^ 126;
    }
