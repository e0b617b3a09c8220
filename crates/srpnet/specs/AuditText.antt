-- What `srpnet audit` says of a scenario, and of a report and a journal of a run of it that nobody
-- vouches for.
use Rattle.std.specs.Prelude.{◌≡◌, ◌⊎◌, ℕ, suc, ◌+◌, List, codes, Option, Some, None, Result, Ok, Err}
use Rattle.srp_base.specs.declared.ports.PortChange.{PortChange}
use Rattle.frame_flow.specs.declared.result.PortFlow.{PortFlow}
use Rattle.topology_file.specs.Plan.{Plan}
use Rattle.world_core.specs.declared.journal.Tick.{Tick}
use Rattle.world_core.specs.{Ticks.AreLegalTicks, World.WorldState}
use Rattle.journal_audit.specs.{Journal.journal_text, Audit.IsJournalOf, Audit.IsRefusal}
use Rattle.srp_report.specs.Report.{report_text}
use Rattle.srpnet.specs.declared.{outcome.Cause.Cause, outcome.Cause.TheVariants.Done, outcome.Cause.TheVariants.AuditNo}
use Rattle.srpnet.specs.{AuditParts.AuditParts, AuditParts.audit_parts, Differ.IsFirstDifferent, RunText.HoldsThroughout, RunText.IsRun, ScenarioInput.scenario_input}

-- a legal run of a scenario that a journal's text is of, with the flow of its frames; and what
-- holds of it
pub record IsRunOf (plan : Plan) (journal : List ℕ) (ticks : List Tick) (world : WorldState) (flows : List PortFlow) : Type 0 where
  pub changes : List PortChange
  pub run : IsRun AreLegalTicks plan ticks world changes flows
  pub spelled : journal ≡ journal_text plan ticks
  pub holds : HoldsThroughout plan ticks flows

-- yes: the journal is of a legal run of the scenario, and the report is the report of just that run
pub record IsApproved (plan : Plan) (parts : AuditParts) : Type 0 where
  pub ticks : List Tick
  pub world : WorldState
  pub flows : List PortFlow
  pub run : IsRunOf plan parts.journal ticks world flows
  pub reported : parts.report ≡ report_text plan world ticks flows

-- no, in the journal: at this line of the output, for this cause
pub record IsJournalRefused (plan : Plan) (parts : AuditParts) (line why : ℕ) : Type 0 where
  pub number : ℕ
  pub refused : IsRefusal plan parts.journal number why
  pub none : (ticks : List Tick) (world : WorldState) → IsJournalOf plan parts.journal ticks world → ⊥
  pub line_is : line ≡ parts.marked + number

-- no, in the report: the journal is of a legal run, and this line is the first in which the report
-- isn't that of the run, or the line `journal` where it ends too early
pub record IsReportRefused (plan : Plan) (parts : AuditParts) (line why : ℕ) : Type 0 where
  pub ticks : List Tick
  pub world : WorldState
  pub flows : List PortFlow
  pub run : IsRunOf plan parts.journal ticks world flows
  pub count : ℕ
  pub differs : IsFirstDifferent parts.report (report_text plan world ticks flows) count
  pub line_is : line ≡ suc count
  pub why_is : why ≡ 4

-- whether it ends so for these parts: no only where yes doesn't hold
abbrev pub IsAudited : Plan → AuditParts → Cause → Type 0
IsAudited plan parts Done = IsApproved plan parts
IsAudited plan parts (AuditNo line why) =
    (IsJournalRefused plan parts line why ⊎ IsReportRefused plan parts line why) × (IsApproved plan parts → ⊥)
IsAudited plan parts cause = ⊥

-- it is no at the line of the journal behind so many of its lines, for this cause
abbrev pub RefusesBehind : AuditParts → ℕ → Cause → ℕ → Type 0
RefusesBehind parts why cause count = cause ≡ AuditNo (parts.marked + suc count) why

-- whether it ends so for these parts, whose scenario is this or is refused
abbrev pub IsAuditedBy : AuditParts → Result Plan Cause → Cause → Type 0
IsAuditedBy parts (Ok plan) cause = IsAudited plan parts cause
IsAuditedBy parts (Err refusal) cause = cause ≡ refusal

-- whether it ends so for these parts, if there are all
abbrev pub IsAuditedOf : Option AuditParts → Cause → Type 0
IsAuditedOf None cause = cause ≡ AuditNo 0 1
IsAuditedOf (Some parts) cause = IsAuditedBy parts (scenario_input parts.scenario) cause

-- whether an audit of these octets ends so, where nothing fails and memory lasts
abbrev pub IsAuditEnding : List ℕ → Cause → Type 0
IsAuditEnding octets cause = IsAuditedOf (audit_parts octets) cause

-- the output of `audit`
pub record AuditOutput (octets text : List ℕ) : Type 0 where
  pub printed : text ≡ codes "audit yes\n"
  pub approved : IsAuditEnding octets Done
