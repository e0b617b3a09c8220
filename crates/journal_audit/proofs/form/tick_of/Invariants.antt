use Rattle.std.proofs.Common.{ℕ, ◌<◌, ◌≤◌}
use Rattle.journal_audit.specs.{IsFormed}
use Rattle.journal_audit.proofs.form.tick_of.Given as goal

-- the line is of no tick before
abbrev pub invariant-loop-s : goal.invariant-loop-s
invariant-loop-s l = (r : ℕ) → l.from ≤ r → r < l.s → IsFormed l.known r l.line → ⊥
