use Rattle.std.proofs.Common.{arith}
use Rattle.journal_audit.specs.{Texts.lines_of, Form.AreFormed, Form.IsFirstUnformed, Audit.known_of, Audit.IsFirstIllegal}
use Rattle.srpnet.proofs.WhyLemmas.{parts_exactly, report_exactly, why_exactly, whys_are, yes_exactly, yes_of_run}
use Rattle.srpnet.proofs.audit.laws.each_why_of_an_audit_has_its_line.Goals as goal

pub returns-clause-whys : goal.returns-clause-whys
returns-clause-whys c = whys_are

pub returns-clause-parts : goal.returns-clause-parts
returns-clause-parts c = parts_exactly

pub returns-clause-form : goal.returns-clause-form
returns-clause-form c plan parts cause count rules h =
    why_exactly plan parts 2 (IsFirstUnformed (known_of plan) parts.journal) (λ e. omega (arith, e))
    (λ verdict n is. c.each_why_has_its_line.ensures.form plan parts.journal verdict n rules is)
    (λ ticks end n is unformed. c.each_why_has_its_line.ensures.formed plan parts.journal ticks end n rules is unformed) cause count h

pub returns-clause-run : goal.returns-clause-run
returns-clause-run c plan parts cause count rules h =
    why_exactly plan parts 3 (λ n. AreFormed (known_of plan) 0 (lines_of parts.journal) × IsFirstIllegal plan parts.journal n) (λ e. omega (arith, e))
    (λ verdict n is. c.each_why_has_its_line.ensures.run plan parts.journal verdict n rules is)
    (λ ticks end n is illegal. c.each_why_has_its_line.ensures.agrees plan parts.journal ticks end n rules is illegal.1) cause count h

pub returns-clause-report : goal.returns-clause-report
returns-clause-report c plan parts cause line rules h =
    report_exactly plan (λ text ticks others end last a b. c.one_text_has_one_journal.ensures.ticks plan text ticks others end last rules a b)
    (λ text ticks others end last a b. c.one_text_has_one_journal.ensures.ends plan text ticks others end last rules a b)
    (λ ticks world changes others fs last a b. c.a_run_has_one_flow.ensures plan ticks world changes others fs last rules a b)
    (λ text verdict count is. c.each_why_has_its_line.ensures.form plan text verdict count rules is)
    (λ text verdict count is. c.each_why_has_its_line.ensures.run plan text verdict count rules is)
    parts cause h line

pub returns-clause-yes : goal.returns-clause-yes
returns-clause-yes c plan parts cause rules h =
    yes_exactly plan (λ text ticks others end last a b. c.one_text_has_one_journal.ensures.ticks plan text ticks others end last rules a b)
    (λ text ticks others end last a b. c.one_text_has_one_journal.ensures.ends plan text ticks others end last rules a b)
    (λ ticks world changes others fs last a b. c.a_run_has_one_flow.ensures plan ticks world changes others fs last rules a b)
    (λ text verdict count is. c.each_why_has_its_line.ensures.form plan text verdict count rules is)
    (λ text verdict count is. c.each_why_has_its_line.ensures.run plan text verdict count rules is)
    parts cause h

pub returns-clause-complete : goal.returns-clause-complete
returns-clause-complete c plan parts cause ticks world changes flows rules h run journal report =
    yes_of_run plan (λ text ts others end last a b. c.one_text_has_one_journal.ensures.ticks plan text ts others end last rules a b)
    (λ text ts others end last a b. c.one_text_has_one_journal.ensures.ends plan text ts others end last rules a b)
    (λ ts w cs others fs last a b. c.a_run_has_one_flow.ensures plan ts w cs others fs last rules a b)
    (λ text verdict count is. c.each_why_has_its_line.ensures.form plan text verdict count rules is)
    (λ text verdict count is. c.each_why_has_its_line.ensures.run plan text verdict count rules is)
    parts cause h ticks world changes flows run journal report
