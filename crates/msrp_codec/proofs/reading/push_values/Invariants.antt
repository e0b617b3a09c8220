use Rattle.std.proofs.Common.{◌≡◌, ◌++◌, ◌-◌}
use Rattle.msrp_codec.specs.{values_from}
use Rattle.msrp_codec.proofs.reading.push_values.Given as goal

abbrev pub invariant-loop-i : goal.invariant-loop-i
invariant-loop-i l = l.out.items ++ values_from l.first l.raw l.i ≡ l.initial.out.items ++ values_from l.first l.raw 0

abbrev pub decreases-loop-i : goal.decreases-loop-i
decreases-loop-i l = l.n - l.i
