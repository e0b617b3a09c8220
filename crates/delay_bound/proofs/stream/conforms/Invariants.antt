-- The rest may go into the bucket where all may go into an empty one.
use Rattle.std.proofs.Common.{◌*◌, ◌≤◌, drop}
use Rattle.delay_bound.specs.Bounds.{second}
use Rattle.delay_bound.specs.Levels.{MayAllGoIn}
use Rattle.delay_bound.proofs.stream.conforms.Given as goal

abbrev pub invariant-loop-frame : goal.invariant-loop-frame
invariant-loop-frame l =
    record {
      come : MayAllGoIn l.limits (record { level = 0; at = 0 }) l.frames → MayAllGoIn l.limits l.bucket (drop l.frame-index l.frames);
      go : MayAllGoIn l.limits l.bucket (drop l.frame-index l.frames) → MayAllGoIn l.limits (record { level = 0; at = 0 }) l.frames;
      low : l.bucket.level ≤ l.limits.burst * second;
    }
