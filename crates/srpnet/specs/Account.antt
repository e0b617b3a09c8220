-- What an audit finds of its parts, and what `srpnet explain audit` prints of it.
use Rattle.std.specs.Prelude.{◌≡◌, ◌≤◌, ◌^◌, ℕ, suc, ◌+◌, ◌-◌, List, codes, ◌++◌, slice_get, Option, Some, None, Result, Ok, Err}
use Rattle.frame_flow.specs.declared.result.PortFlow.{PortFlow}
use Rattle.topology_file.specs.Plan.{Plan}
use Rattle.world_core.specs.declared.journal.Tick.{Tick}
use Rattle.world_core.specs.World.{WorldState}
use Rattle.journal_audit.specs.{Texts.lines_of, Audit.GoesOnWith}
use Rattle.audit_words.specs.{Slips.slip_of, Slips.slip_words, Words.unformed_text, Words.illegal_text, Words.differing_text}
use Rattle.srp_report.specs.Report.{report_text}
use Rattle.srpnet.specs.declared.{audit.account.Account.Account, outcome.Cause.Cause, outcome.Cause.TheVariants.Done, outcome.Cause.TheVariants.AuditNo}
use Rattle.srpnet.specs.declared.audit.account.Account.TheVariants.{Approved, Unformed, Illegal, Differing}
use Rattle.rule_words.specs.declared.kinds.FileKind.TheVariants.{Scenario as ScenarioFile}
use Rattle.srpnet.specs.{AuditParts.AuditParts, AuditParts.audit_parts, AuditParts.behind_cut, AuditText.IsAudited, AuditText.IsRunOf, ExplainText.IsExplained, Input.ending, ScenarioInput.scenario_input}

-- how an audit ends that finds this
abbrev pub cause_of : Account → Cause
cause_of Approved = Done
cause_of (Unformed line) = AuditNo line 2
cause_of (Illegal line legal) = AuditNo line 3
cause_of (Differing line legal) = AuditNo line 4

-- the report of a legal run with a journal's text has this line behind so many, or ends there
pub record HasReportLine (plan : Plan) (journal : List ℕ) (count : ℕ) (legal : Option (List ℕ)) : Type 0 where
  pub ticks : List Tick
  pub world : WorldState
  pub flows : List PortFlow
  pub run : IsRunOf plan journal ticks world flows
  pub is : slice_get (lines_of (report_text plan world ticks flows)) count ≡ legal

-- the line that is told is one that is right there
abbrev pub TellsLegal : Plan → AuditParts → Account → Type 0
TellsLegal plan parts Approved = Unit {0}
TellsLegal plan parts (Unformed line) = Unit {0}
TellsLegal plan parts (Illegal line legal) = GoesOnWith plan parts.journal (line - suc parts.marked) legal
TellsLegal plan parts (Differing line legal) = HasReportLine plan parts.journal (line - 1) legal

-- a number of a line
abbrev pub IsLineNumber : ℕ → Type 0
IsLineNumber line = (1 ≤ line) × (line ≤ 2 ^ 63)

-- the line at which the answer is no has a number
abbrev pub HasLine : Account → Type 0
HasLine Approved = Unit {0}
HasLine (Unformed line) = IsLineNumber line
HasLine (Illegal line legal) = IsLineNumber line
HasLine (Differing line legal) = IsLineNumber line

-- ---- what is printed

-- what stands in an input at a line behind the cut, whose own number this is
abbrev pub stands_at : List ℕ → ℕ → ℕ → Option (List ℕ)
stands_at octets cut line = slice_get (lines_of octets) (cut + line - 1)

-- of what is found in an input whose cut has this number
abbrev pub account_text : List ℕ → ℕ → Account → List ℕ
account_text octets cut Approved = codes "audit yes\n"
account_text octets cut (Unformed line) = unformed_text (cut + line) line (stands_at octets cut line)
account_text octets cut (Illegal line legal) = illegal_text (cut + line) line (stands_at octets cut line) legal
account_text octets cut (Differing line legal) = differing_text (cut + line) line (stands_at octets cut line) legal

-- of the parts of an input whose scenario this is: what an audit finds, with a line that is right
-- where it is no
pub record IsAccounted (octets : List ℕ) (plan : Plan) (parts : AuditParts) (text : List ℕ) : Type 0 where
  pub account : Account
  pub audited : IsAudited plan parts (cause_of account)
  pub legal : TellsLegal plan parts account
  pub printed : text ≡ account_text octets parts.cut account

-- before what is said of a scenario that is refused
abbrev pub refused_words : List ℕ
refused_words = codes "audit no\nthe plan is refused, as explain says of it:\n"

-- what is said of the octets of a scenario that is refused: what `explain` says of it
pub record IsRefusalTold (scenario text : List ℕ) : Type 0 where
  pub words : List ℕ
  pub explained : IsExplained ScenarioFile (ending (scenario_input scenario)) scenario words
  pub text_is : text ≡ refused_words ++ words

-- of the parts of an input whose scenario is this or is refused
abbrev pub IsAccountedBy : List ℕ → AuditParts → Result Plan Cause → List ℕ → Type 0
IsAccountedBy octets parts (Ok plan) text = IsAccounted octets plan parts text
IsAccountedBy octets parts (Err refusal) text = IsRefusalTold parts.scenario text

-- of an input with these parts, or without a line that parts it
abbrev pub IsAccountOf : List ℕ → Option AuditParts → List ℕ → Type 0
IsAccountOf octets None text = text ≡ slip_words (slip_of octets (behind_cut octets))
IsAccountOf octets (Some parts) text = IsAccountedBy octets parts (scenario_input parts.scenario) text

-- what `explain audit` prints of the octets of an input
abbrev pub IsAuditExplained : List ℕ → List ℕ → Type 0
IsAuditExplained octets text = IsAccountOf octets (audit_parts octets) text
