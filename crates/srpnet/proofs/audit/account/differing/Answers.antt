use Rattle.std.proofs.Common.{◌≡◌, ◌+◌, ◌-◌, ℕ, List, sym, ap, subst, ◌∙◌, arith}
use Rattle.std.specs.Prelude.{slice_get}
use Rattle.journal_audit.specs.Texts.{lines_of}
use Rattle.srp_report.specs.Report.{report_text}
use Rattle.srpnet.proofs.audit.account.differing.Goals as goal

pub returns-clause-legal : goal.returns-clause-legal
returns-clause-legal c =
    let plan = c.args.scenario.now in
    let run = c.args.run in
    let flows = c.in_ok-ran.ran.flow.ports in
    let text_is : c.in_ok-text.text.items ≡ report_text plan run.world run.journal.ticks flows =
    subst (λ r. c.in_ok-text.text.items ≡ report_text plan r.world r.journal.ticks flows) c.in_ok-ran.ensures.run c.in_ok-text.ensures
    in
    let place : c.args.count ≡ c.args.count + 1 - 1 = omega arith in
    record {
      ticks = run.journal.ticks;
      world = run.world;
      flows = flows;
      run = record {
        changes = run.timeline.changes;
        run = record { lead = c.requires.legal; in_force = c.requires.timeline; flow = c.in_ok-ran.ensures.flow };
        spelled = c.requires.spelled;
        holds = c.in_ok-ran.ensures.holds;
      };
      is = subst (λ (n : ℕ). slice_get (lines_of (report_text plan run.world run.journal.ticks flows)) n ≡ c.in_ok-legal.legal) place
          (sym (c.in_ok-legal.ensures ∙ ap (λ (t : List ℕ). slice_get (lines_of t) c.args.count) (c.as_slice.ensures.value ∙ text_is)));
    }
