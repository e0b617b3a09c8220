-- The pass is the one that was given: of its lock, with its number.
use Rattle.std.specs.Prelude.{◌≡◌}
use Rattle.node_cases.proofs.threads.calls.Given as goal

abbrev pub invariant-loop : goal.invariant-loop
invariant-loop g l = (l.pass.lock ≡ l.lock) × (l.pass.lock ≡ l.fn.pass.lock) × (l.pass.number ≡ l.fn.pass.number)
