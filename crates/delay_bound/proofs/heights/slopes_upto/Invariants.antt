-- The sum so far and the rest are all, up to the limit.
use Rattle.std.proofs.Common.{◌≡◌, ◌+◌, ◌^◌, ◌≤◌, drop}
use Rattle.std.specs.Prelude.{min}
use Rattle.delay_bound.specs.Bounds.{first_slopes}
use Rattle.delay_bound.proofs.heights.slopes_upto.Given as goal

abbrev pub invariant-loop-group : goal.invariant-loop-group
invariant-loop-group l =
    record {
      whole : min (l.sum + first_slopes (drop l.group-index l.groups)) (2 ^ 64) ≡ min (first_slopes l.groups) (2 ^ 64);
      small : l.sum ≤ 2 ^ 64;
    }
