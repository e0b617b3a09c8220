use Rattle.std.proofs.Common.{ℕ, ◌++◌, List, ap, ◌∙◌}
use Rattle.srp_report.specs.JournalText.{journal_text}
use Rattle.srpnet.proofs.run.text.run_journal_text.Goals as goal

pub returns : goal.returns
returns c =
    let journal = journal_text c.args.scenario.now c.args.run.now.journal.ticks in
    c.in_ok-add.ensures.ok
    ∙ ap (λ (ys : List ℕ). c.in_ok-text.text ++ ys) (c.as_slice.ensures.value ∙ c.in_ok-journal.ensures)
    ∙ ap (λ (xs : List ℕ). xs ++ journal) c.in_ok-text.ensures
