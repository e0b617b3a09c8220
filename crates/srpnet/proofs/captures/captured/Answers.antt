use Rattle.std.proofs.Common.{ℕ, ap, ◌∙◌}
use Rattle.link_capture.specs.Captured.{captured}
use Rattle.srpnet.proofs.PlanLemmas.{captured_as}
use Rattle.srpnet.proofs.captures.captured.Goals as goal

pub returns-clause-output : goal.returns-clause-output
returns-clause-output c =
    let plan = c.args.scenario.now in
    let run = c.in_ok-run.run' in
    let made = c.output_of.result in
    captured_as plan run.journal.ticks run.world run.timeline.changes c.in_ok-run.ensures.ticks c.in_ok-run.ensures.timeline c.what_holds_of.ensures
    c.args.link made.journal.ticks made.text c.output_of.ensures.journal
    (c.output_of.ensures.text ∙ c.of.ensures ∙ c.in_ok-text.ensures.exact ∙ ap (λ (n : ℕ). captured plan run.journal.ticks n) c.number_of.ensures)
