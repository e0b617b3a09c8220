use Rattle.std.proofs.Common.{◌≡◌, ℕ, List, refl, subst, inr, arith}
use Rattle.std.specs.Prelude.{IfSome}
use Rattle.srp_report.specs.Report.{report_text}
use Rattle.srpnet.specs.{IsRunOf, IsFirstDifferent}
use Rattle.srpnet.proofs.AuditLemmas.{other_report}
use Rattle.srpnet.proofs.audit.account.compared.Goals as goal

pub differing-requires-clause-differs : goal.differing-requires-clause-differs
differing-requires-clause-differs c =
    let plan = c.args.scenario.now in
    let run = c.args.run in
    let flows = c.in_ok-ran.ran.flow.ports in
    let wanted = c.in_ok-wanted.wanted in
    let wanted_is : wanted ≡ report_text plan run.world run.journal.ticks flows =
    subst (λ r. wanted ≡ report_text plan r.world r.journal.ticks flows) c.in_ok-ran.ensures.run c.in_ok-wanted.ensures
    in
    let some = subst (λ o. IfSome o (IsFirstDifferent c.report.result.now wanted)) c.in-Some.is c.in_ok-differing_line.ensures.some in
    let differs : IsFirstDifferent c.args.parts.now.report (report_text plan run.world run.journal.ticks flows) c.in-Some.count =
    subst (λ (r : List ℕ). IsFirstDifferent r (report_text plan run.world run.journal.ticks flows) c.in-Some.count) c.report.ensures
    (subst (λ (w : List ℕ). IsFirstDifferent c.report.result.now w c.in-Some.count) wanted_is some)
    in
    let of : IsRunOf plan c.args.parts.now.journal run.journal.ticks run.world flows =
    record {
      changes = run.timeline.changes;
      run = record { lead = c.requires.legal; in_force = c.requires.timeline; flow = c.in_ok-ran.ensures.flow };
      spelled = c.requires.spelled;
      holds = c.in_ok-ran.ensures.holds;
    }
    in
    let rules = c.keeps_rules.ensures in (
      inr (record {
        ticks = run.journal.ticks;
        world = run.world;
        flows = flows;
        run = of;
        count = c.in-Some.count;
        differs = differs;
        line_is = omega arith;
        why_is = refl;
      }),
      other_report plan
          (λ text ticks others end last one two. c.one_text_has_one_journal.ensures.ticks plan text ticks others end last rules one two)
          (λ text ticks others end last one two. c.one_text_has_one_journal.ensures.ends plan text ticks others end last rules one two)
          (λ ticks world changes others fs last one two. c.a_run_has_one_flow.ensures plan ticks world changes others fs last rules one two)
          c.args.parts.now run.journal.ticks run.world flows c.in-Some.count of differs,
    )
