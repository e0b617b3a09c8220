-- The pass is one of the lock's.
use Rattle.std.specs.Prelude.{◌≡◌}
use Rattle.lock_speed.proofs.turns.calls.Given as goal

abbrev pub invariant-loop : goal.invariant-loop
invariant-loop g l = l.pass.lock ≡ l.lock
