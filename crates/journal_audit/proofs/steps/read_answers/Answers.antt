use Rattle.std.proofs.Common.{◌+◌, ℕ, suc, take, drop, get_or, subst}
use Rattle.node_core.specs.declared.types.StepReply.TheVariants.{Nothing}
use Rattle.world_core.specs.declared.{events.WorldReply.WorldReply, events.WorldReply.TheVariants.Step}
use Rattle.journal_audit.specs.{TakesOrStays, answer_line}
use Rattle.journal_audit.proofs.{ListLemmas.at_place, ListLemmas.take_place, StepLemmas.other_answer, StepLemmas.answers_more}
use Rattle.journal_audit.proofs.steps.read_answers.Goals as goal

pub returns-then-not-branch-clause-other : goal.returns-then-not-branch-clause-other
returns-then-not-branch-clause-other c =
    let answers = c.args.answers.now in
    let i = c.loop-answer.answer-index in
    let none : ℕ × WorldReply = (0, Step Nothing) in
    let e : ℕ × WorldReply = get_or answers i none in
    λ isnt.
    other_answer c.args.t answers (take i answers) (drop (suc i) answers) e c.args.lines.now c.loop-answer.lines c.read_answer.new.lines (at_place answers i none c.loop-answer-test.true)
    c.loop-answer.invariant
    (subst (TakesOrStays (answer_line c.args.t e) c.loop-answer.lines c.read_answer.new.lines) c.if-not-branch.true c.in_ok-read_answer.ensures)

pub loop-answer-preserved : goal.loop-answer-preserved
loop-answer-preserved c =
    let answers = c.args.answers.now in
    let i = c.loop-answer.answer-index in
    let none : ℕ × WorldReply = (0, Step Nothing) in
    let e : ℕ × WorldReply = get_or answers i none in
    answers_more c.args.t (take i answers) (take (i + 1) answers) e c.args.lines.now c.loop-answer.lines c.read_answer.new.lines (take_place answers i none c.loop-answer-test.true)
    c.loop-answer.invariant
    (subst (TakesOrStays (answer_line c.args.t e) c.loop-answer.lines c.read_answer.new.lines) c.if-not-branch.false c.in_ok-read_answer.ensures)
