use Rattle.std.proofs.Common.{length}
use Rattle.srpnet.proofs.AuditLemmas.{IsCompared}
use Rattle.srpnet.proofs.audit.differ.differing_line.Given as goal

abbrev pub invariant-loop-rest : goal.invariant-loop-rest
invariant-loop-rest l = IsCompared l.given l.initial.rest l.rest l.at l.lines

abbrev pub decreases-loop-rest : goal.decreases-loop-rest
decreases-loop-rest l = length l.rest
