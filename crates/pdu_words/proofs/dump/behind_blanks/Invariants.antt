use Rattle.std.proofs.Common.{◌≡◌, ◌≤◌, length}
use Rattle.pdu_words.specs.{behind_blanks}
use Rattle.pdu_words.proofs.dump.behind_blanks.Given as goal

-- what stands behind the blanks of the rest stands behind those of the whole
abbrev pub invariant-loop-rest : goal.invariant-loop-rest
invariant-loop-rest l = record {
  behind : behind_blanks l.rest ≡ behind_blanks l.text;
  within : length l.rest ≤ length l.text;
}

abbrev pub decreases-loop-rest : goal.decreases-loop-rest
decreases-loop-rest l = length l.rest
