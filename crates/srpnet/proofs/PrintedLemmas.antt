-- What is printed of a run, behind its scenario and the cut, is approved.
use Rattle.std.proofs.Common.{◌≡◌, ℕ, ◌+◌, List, ◌++◌, length, refl, sym, ap, subst, ◌∙◌, Option, Ok}
use Rattle.std.specs.Prelude.{Result, codes}
use Rattle.frame_flow.specs.declared.result.PortFlow.{PortFlow}
use Rattle.toml.specs.Data.{Members}
use Rattle.topology_file.specs.{Plan.Plan, Scenario.KeepsRules, Scenario.scenario_of}
use Rattle.world_core.specs.declared.journal.Tick.{Tick}
use Rattle.world_core.specs.{Ticks.AreLegalTicks, World.WorldState}
use Rattle.journal_audit.specs.{Journal.journal_text, Texts.lines_of}
use Rattle.srp_report.specs.Report.{report_text}
use Rattle.srpnet.specs.{Cause, Done, EndsItsLines, LacksLine, IsAuditedBy, IsAuditedOf, IsAuditEnding, IsRun, RunOutput, report_and_journal, scenario_input}
use Rattle.srpnet.specs.AuditParts.{AuditParts}
use Rattle.srpnet.proofs.{PartingLemmas.parted_again, RunLemmas.approved, RunLemmas.journal_printed, WhyLemmas.scenario_keeps}

pub printed_approved : ((ms : Members) (plan : Plan) → scenario_of ms ≡ Ok plan → KeepsRules plan)
    → ((plan : Plan) (world : WorldState) (ticks : List Tick) (flows : List PortFlow) → KeepsRules plan
    → EndsItsLines (report_text plan world ticks flows) × LacksLine (codes "journal") (report_text plan world ticks flows))
    → (Lead : Plan → List Tick → WorldState → Type 0) → ((plan : Plan) (ticks : List Tick) (end : WorldState) → Lead plan ticks end → AreLegalTicks plan ticks end)
    → (scenario text : List ℕ) (ticks : List Tick) → EndsItsLines scenario → LacksLine (codes "=== output") scenario
    → RunOutput Lead report_and_journal scenario ticks text → IsAuditEnding (scenario ++ (codes "=== output\n" ++ text)) Done
printed_approved keeps blocks Lead legal scenario text ticks ends no_cut output =
    let plan = output.plan in
    let r = output.reported in
    let report = report_text plan r.world ticks r.flows in
    let journal = journal_text plan ticks in
    let block = blocks plan r.world ticks r.flows (scenario_keeps keeps scenario plan output.read) in
    let parts : AuditParts = record { scenario = scenario; cut = length (lines_of scenario) + 1; report = report; marked = length (lines_of report) + 1; journal = journal } in
    let run : IsRun AreLegalTicks plan ticks r.world r.changes r.flows =
    record { lead = legal plan ticks r.world r.run.lead; in_force = r.run.in_force; flow = r.run.flow } in
    let whole : text ≡ report ++ (codes "journal\n" ++ journal) = r.printed ∙ ap (λ (l : List ℕ). report ++ l) (journal_printed plan ticks) in
    let yes : IsAuditedBy parts (scenario_input scenario) Done =
    subst (λ (read : Result Plan Cause). IsAuditedBy parts read Done) (sym output.read) (approved plan ticks r.world r.changes r.flows parts run r.holds refl refl) in
    let parted = parted_again scenario report journal ends block.0 no_cut block.1 in
    subst (λ (l : List ℕ). IsAuditEnding (scenario ++ (codes "=== output\n" ++ l)) Done) (sym whole)
    (subst (λ (o : Option AuditParts). IsAuditedOf o Done) (sym parted) yes)
