use Rattle.std.proofs.Common.{◌≡◌, length}
use Rattle.audit_words.specs.Slips.{has_sought}
use Rattle.audit_words.proofs.slips.has_sought.Given as goal

-- no line that was passed is sought
abbrev pub invariant-loop-rest : goal.invariant-loop-rest
invariant-loop-rest l = has_sought l.sought l.text ≡ has_sought l.sought l.rest

abbrev pub decreases-loop-rest : goal.decreases-loop-rest
decreases-loop-rest l = length l.rest
