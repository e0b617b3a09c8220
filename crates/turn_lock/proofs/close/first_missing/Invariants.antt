use Rattle.std.proofs.Common.{◌≡◌, ℕ, ◌-◌, ◌≤◌, true}
use Rattle.turn_lock.specs.{is_given}
use Rattle.turn_lock.proofs.close.first_missing.Given as goal

abbrev pub invariant-loop-given : goal.invariant-loop-given
invariant-loop-given g l = (l.given ≤ l.fn.count) × ((number : ℕ) → 1 ≤ number → number ≤ l.given → is_given l.fn.passes number ≡ true)

abbrev pub decreases-loop-given : goal.decreases-loop-given
decreases-loop-given g l = l.fn.count - l.given
