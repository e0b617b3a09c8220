use Rattle.std.proofs.Common.{◌≡◌, length}
use Rattle.pdu_words.specs.{is_paired}
use Rattle.pdu_words.proofs.capture.is_paired.Given as goal

-- what is left is paired exactly where the whole is
abbrev pub invariant-loop-rest : goal.invariant-loop-rest
invariant-loop-rest l = is_paired l.rest ≡ is_paired l.line

abbrev pub decreases-loop-rest : goal.decreases-loop-rest
decreases-loop-rest l = length l.rest
