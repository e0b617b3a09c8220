use Rattle.std.proofs.Common.{◌∷◌, ◌+◌, ℕ, List, drop, sym, ap, ◌∙◌}
use Rattle.journal_audit.specs.{lines_of}
use Rattle.journal_audit.proofs.TextLemmas.{found_line, last_line}
use Rattle.journal_audit.proofs.texts.first_line.Goals as goal

pub returns-in-Some-clause-lines : goal.returns-in-Some-clause-lines
returns-in-Some-clause-lines c =
    found_line c.args.text.now c.in-Some.place (sym c.line_feed.ensures ∙ c.in-Some.is)
    ∙ (ap (λ (line : List ℕ). line ∷ lines_of (drop (c.in-Some.place + 1) c.args.text.now)) (sym c.split_at.ensures.front)
    ∙ ap (λ (rest : List ℕ). c.split_at.result.0.now ∷ lines_of rest) (sym c.split_at.ensures.back))

pub returns-in-None-clause-lines : goal.returns-in-None-clause-lines
returns-in-None-clause-lines c = last_line c.args.text.now (sym c.line_feed.ensures ∙ c.in-None.is) c.requires
