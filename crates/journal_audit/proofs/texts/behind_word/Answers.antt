use Rattle.journal_audit.proofs.TextLemmas.{not_word}
use Rattle.journal_audit.proofs.texts.behind_word.Goals as goal

pub returns-clause-none : goal.returns-clause-none
returns-clause-none c = not_word c.args.word.now c.args.text.now c.in_ok-rest.rest.now c.behind-2.result c.in_ok-rest.ensures.some c.behind-2.ensures.none
