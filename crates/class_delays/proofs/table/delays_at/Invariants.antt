use Rattle.std.proofs.Common.{◌≡◌, drop}
use Rattle.class_delays.specs.{delays_at}
use Rattle.class_delays.proofs.table.delays_at.Given as goal

abbrev pub invariant-loop-e : goal.invariant-loop-e
invariant-loop-e l = delays_at (drop l.e-index l.ports) l.at ≡ delays_at l.ports l.at
