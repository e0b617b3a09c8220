use Rattle.std.proofs.Common.{ℕ, List}
use Rattle.journal_audit.specs.{known_of}
use Rattle.journal_audit.proofs.{RunLemmas.none_is, VerdictLemmas.formed_all, VerdictLemmas.form_refused, VerdictLemmas.run_refused}
use Rattle.journal_audit.proofs.laws.each_why_has_its_line.Goals as goal

pub returns-clause-form : goal.returns-clause-form
returns-clause-form c plan text verdict count rules h =
    form_refused plan text verdict count (λ ticks end is. c.a_legal_journal_is_of_the_form.ensures.text plan text ticks end rules is) h

pub returns-clause-run : goal.returns-clause-run
returns-clause-run c plan text verdict count rules h = run_refused plan (c.laws_of_replays.ensures plan rules) text verdict count h

pub returns-clause-formed : goal.returns-clause-formed
returns-clause-formed c plan text ticks end count rules is unformed =
    formed_all (known_of plan) text count (c.a_legal_journal_is_of_the_form.ensures.text plan text ticks end rules is) unformed

pub returns-clause-agrees : goal.returns-clause-agrees
returns-clause-agrees c plan text ticks end count rules is illegal = none_is plan (c.laws_of_replays.ensures plan rules) text count illegal ticks end is
