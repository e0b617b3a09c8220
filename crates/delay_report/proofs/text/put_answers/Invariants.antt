use Rattle.std.proofs.Common.{◌≡◌, ◌++◌, drop}
use Rattle.std.specs.Prelude.{flat_map}
use Rattle.delay_report.specs.Lines.{conforms_line}
use Rattle.delay_report.proofs.text.put_answers.Given as goal

-- the text so far with the lines of the answers that are left is the whole
abbrev pub invariant-loop-answer : goal.invariant-loop-answer
invariant-loop-answer l =
    l.out.items ++ flat_map (λ a. conforms_line a.stream.id a.conforms) (drop l.answer-index l.answers)
    ≡ l.fn.out.items ++ flat_map (λ a. conforms_line a.stream.id a.conforms) l.answers
