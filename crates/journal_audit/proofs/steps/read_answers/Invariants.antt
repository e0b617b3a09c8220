use Rattle.std.proofs.Common.{take}
use Rattle.journal_audit.specs.{answer_lines, AreTaken}
use Rattle.journal_audit.proofs.steps.read_answers.Given as goal

-- the lines of the answers so far have been read
abbrev pub invariant-loop-answer : goal.invariant-loop-answer
invariant-loop-answer l = AreTaken (answer_lines l.t (take l.answer-index l.answers)) l.fn.lines l.lines
