use Rattle.journal_audit.specs.{IsMadeText}
use Rattle.journal_audit.proofs.FormLemmas.{word_then}
use Rattle.journal_audit.proofs.form.is_at.Goals as goal

pub returns-in-Some : goal.returns-in-Some
returns-in-Some c = word_then IsMadeText c.args.port.now c.args.text.now c.in-Some.rest.now c.is_made_text.result c.in-Some.ensures.some c.is_made_text.ensures
