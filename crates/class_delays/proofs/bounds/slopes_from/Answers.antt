use Rattle.std.proofs.Common.{arith}
use Rattle.class_delays.specs.{slope_from}
use Rattle.class_delays.proofs.Sums.{sum-end}
use Rattle.class_delays.proofs.bounds.slopes_from.Goals as goal

pub returns : goal.returns
returns c =
    sum-end (slope_from c.args.by) c.loop-c.sum c.args.coming.now c.loop-c.c-index (omega arith) c.loop-c.invariant.whole c.loop-c.invariant.small
