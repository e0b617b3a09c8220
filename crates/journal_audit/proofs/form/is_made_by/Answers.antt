use Rattle.journal_audit.specs.{IsReplyText}
use Rattle.journal_audit.proofs.FormLemmas.{word_then}
use Rattle.journal_audit.proofs.form.is_made_by.Goals as goal

pub returns-in-Some : goal.returns-in-Some
returns-in-Some c = word_then IsReplyText c.args.word.now c.args.text.now c.in-Some.rest.now c.is_reply_text.result c.in-Some.ensures.some c.is_reply_text.ensures
