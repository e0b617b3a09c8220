use Rattle.std.proofs.Common.{◌++◌, ◌∷◌, ℕ, List, ap, ◌∙◌}
use Rattle.std.specs.Fmt.{decimal}
use Rattle.journal_audit.specs.{IsHappeningText}
use Rattle.journal_audit.proofs.FormLemmas.{word_then}
use Rattle.journal_audit.proofs.form.is_formed.Goals as goal

pub returns-in-Some : goal.returns-in-Some
returns-in-Some c =
    word_then (IsHappeningText c.args.known.now) (decimal c.args.t) c.args.line.now c.in-Some.rest.now c.is_happening_text.result
    (c.in-Some.ensures.some ∙ ap (λ (d : List ℕ). d ++ 32 ∷ c.in-Some.rest.now) (c.as_bytes.ensures.value ∙ c.format.ensures.text)) c.is_happening_text.ensures
