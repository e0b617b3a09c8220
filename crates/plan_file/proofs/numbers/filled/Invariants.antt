use Rattle.std.proofs.Common.{◌≡◌, ◌++◌, ◌≤◌, drop}
use Rattle.plan_file.specs.{filled}
use Rattle.plan_file.proofs.numbers.filled.Given as goal

abbrev pub invariant-loop-i : goal.invariant-loop-i
invariant-loop-i l =
    (l.place ≤ l.i) × (l.numbers.items ++ filled (drop l.place l.free) (drop l.i l.given) ≡ filled l.free l.given)
