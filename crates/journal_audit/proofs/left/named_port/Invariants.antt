use Rattle.std.proofs.Common.{◌≡◌, ◌<◌, ℕ}
use Rattle.std.specs.Prelude.{slice_get, Some}
use Rattle.journal_audit.specs.{LeftState, MayBeNext}
use Rattle.journal_audit.proofs.left.named_port.Given as goal

-- the next line is of a step of no port before
abbrev pub invariant-loop-at : goal.invariant-loop-at
invariant-loop-at l = (k : ℕ) (p : LeftState) → slice_get l.ports k ≡ Some p → k < l.at → MayBeNext l.lines p → ⊥
