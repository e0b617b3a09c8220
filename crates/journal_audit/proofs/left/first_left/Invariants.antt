use Rattle.std.proofs.Common.{◌≡◌, ◌<◌, ◌≤◌, ℕ, length}
use Rattle.std.specs.Prelude.{slice_get, Some}
use Rattle.journal_audit.specs.{LeftState}
use Rattle.journal_audit.proofs.left.first_left.Given as goal

-- no port before has a job left
abbrev pub invariant-loop-at : goal.invariant-loop-at
invariant-loop-at l = (k : ℕ) (p : LeftState) → slice_get l.ports k ≡ Some p → k < l.at → 1 ≤ length p.jobs → ⊥
