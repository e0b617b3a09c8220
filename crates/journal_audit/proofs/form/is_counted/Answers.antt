use Rattle.journal_audit.specs.{IsNumberText}
use Rattle.journal_audit.proofs.FormLemmas.{word_then}
use Rattle.journal_audit.proofs.form.is_counted.Goals as goal

pub returns-in-Some : goal.returns-in-Some
returns-in-Some c = word_then IsNumberText c.args.word.now c.args.text.now c.in-Some.rest.now c.is_number_text.result c.in-Some.ensures.some c.is_number_text.ensures
