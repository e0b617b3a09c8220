use Rattle.srpnet.proofs.EndingLemmas.{one_ending}
use Rattle.srpnet.proofs.audit.laws.an_audit_ends_one_way.Goals as goal

pub returns : goal.returns
returns c plan parts one other rules is_one is_other =
    one_ending plan (λ text ticks others end last a b. c.one_text_has_one_journal.ensures.ticks plan text ticks others end last rules a b)
    (λ text ticks others end last a b. c.one_text_has_one_journal.ensures.ends plan text ticks others end last rules a b)
    (λ ticks world changes others fs last a b. c.a_run_has_one_flow.ensures plan ticks world changes others fs last rules a b)
    (λ text verdict count is. c.each_why_has_its_line.ensures.form plan text verdict count rules is)
    (λ text verdict count is. c.each_why_has_its_line.ensures.run plan text verdict count rules is)
    parts one other is_one is_other
