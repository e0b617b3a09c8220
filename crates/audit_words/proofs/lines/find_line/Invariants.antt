use Rattle.std.proofs.Common.{◌≡◌, length}
use Rattle.std.specs.Prelude.{slice_get}
use Rattle.journal_audit.specs.Texts.{lines_of}
use Rattle.audit_words.proofs.lines.find_line.Given as goal

-- the line is so many lines behind those that were passed
abbrev pub invariant-loop-rest : goal.invariant-loop-rest
invariant-loop-rest l = slice_get (lines_of l.text) l.place ≡ slice_get (lines_of l.rest) l.left

abbrev pub decreases-loop-rest : goal.decreases-loop-rest
decreases-loop-rest l = length l.rest
