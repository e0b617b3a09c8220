-- The sum so far and the rest are all.
use Rattle.std.proofs.Common.{◌≡◌, ◌+◌, ◌^◌, ◌<◌, drop}
use Rattle.std.specs.Prelude.{sum_by}
use Rattle.class_delays.specs.{slope_from}
use Rattle.class_delays.proofs.bounds.slopes_from.Given as goal

abbrev pub invariant-loop-c : goal.invariant-loop-c
invariant-loop-c l =
    record {
      whole : l.sum + sum_by (slope_from l.by) (drop l.c-index l.coming) ≡ sum_by (slope_from l.by) l.coming;
      small : l.sum < 2 ^ 128;
    }
