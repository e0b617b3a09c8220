use Rattle.std.proofs.Common.{length}
use Rattle.journal_audit.proofs.FormLemmas.{IsFormedTo}
use Rattle.journal_audit.proofs.form.first_unformed.Given as goal

abbrev pub invariant-loop-rest : goal.invariant-loop-rest
invariant-loop-rest l = IsFormedTo l.known l.text l.rest l.tick l.line

abbrev pub decreases-loop-rest : goal.decreases-loop-rest
decreases-loop-rest l = length l.rest
