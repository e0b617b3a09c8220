-- The commands. Each has a line in `reads_input`, `runs`, `Output` and `IsEndingOf`, and a row in
-- the table of words; one whose input may be longer than the others' has a line in `most_octets`, and
-- one whose output may say no a line in `IsVerdict`.
use Rattle.std.specs.Prelude.{◌≡◌, ℕ, Bool, true, false, List, Ok}
use Rattle.world_core.specs.declared.journal.Tick.{Tick}
use Rattle.world_core.specs.Ticks.{AreCanonicalTicks, AreLegalTicks}
use Rattle.rule_words.specs.declared.kinds.FileKind.TheVariants.{Scenario as ScenarioFile, Ledger as LedgerFile, Groups as GroupFile, Plan as PlanFile}
use Rattle.pdu_words.specs.{Captured.captured_text, Decoded.decoded_text}
use Rattle.srpnet.specs.declared.{words.Command.Command, outcome.Cause.Cause, outcome.Cause.TheVariants.Done, outcome.Cause.TheVariants.NoWords}
use Rattle.srpnet.specs.declared.words.Command.TheVariants.{Ledger, Check, Explain, ExplainLedger, ExplainAudit, Run, RunJournal, RunBounds, Ports, PortsJournal, Margins, Audit, AuditLong, Groups, Decode, Capture, Generate, GeneratePlan, Help, Version, Delays, Wishes, StrictWishes, Expand, RunCapture, Replay, ExplainGroups, ExplainPlan, Bare}
use Rattle.srpnet.specs.{Account.IsAuditExplained, Input.ending, ScenarioInput.scenario_input, AuditText.AuditOutput, AuditText.IsAuditEnding, CaptureText.CaptureOutput, CaptureText.link_input, CheckText.CheckOutput, ExplainText.IsExplained, GeneratedText.GeneratedOutput, GeneratedText.IsGeneratedPlan, GroupsText.GroupsOutput, GroupsText.group_input, LedgerInput.ledger_input, LedgerText.LedgerOutput, MarginsText.margins_alone, Pages.help_page, Pages.version_page, PlanInput.IsExpanded, PlanInput.any_scenario_input, PlanInput.plan_input, ReplayText.replay_input, RunText.RunOutput, RunText.report_alone, RunText.report_and_journal, RunText.report_and_bounds, DelaysText.DelaysOutput, WishesText.PlanOutput, WishesText.IsStrictVerdict}

-- whether it reads an input; the pages read none, and neither does what makes its scenario of a
-- number
abbrev pub reads_input : Command → Bool
reads_input Ledger = true
reads_input Check = true
reads_input Explain = true
reads_input ExplainLedger = true
reads_input ExplainAudit = true
reads_input ExplainGroups = true
reads_input ExplainPlan = true
reads_input Run = true
reads_input RunJournal = true
reads_input RunBounds = true
reads_input (RunCapture link) = true
reads_input Ports = true
reads_input PortsJournal = true
reads_input Margins = true
reads_input Delays = true
reads_input Wishes = true
reads_input StrictWishes = true
reads_input Expand = true
reads_input Audit = true
reads_input AuditLong = true
reads_input Groups = true
reads_input (Decode form) = true
reads_input Capture = true
reads_input Replay = true
reads_input (Generate number) = false
reads_input (GeneratePlan number) = false
reads_input Help = false
reads_input Bare = false
reads_input Version = false

-- the most octets of its input: 1 MiB, and 64 MiB where the journal of a large network is audited or
-- its audit explained
abbrev pub most_octets : Command → ℕ
most_octets AuditLong = 67108864
most_octets ExplainAudit = 67108864
most_octets _ = 1048576

-- whether it runs a network, so that there is a journal
abbrev pub runs : Command → Bool
runs Ledger = false
runs Check = false
runs Explain = false
runs ExplainLedger = false
runs ExplainAudit = false
runs ExplainGroups = false
runs ExplainPlan = false
runs Run = true
runs RunJournal = true
runs RunBounds = true
runs (RunCapture link) = true
runs Ports = true
runs PortsJournal = true
runs Margins = true
runs Delays = true
runs Wishes = true
runs StrictWishes = true
runs Expand = false
runs Audit = false
runs AuditLong = false
runs Groups = false
runs (Decode form) = false
runs Capture = false
runs Replay = false
runs (Generate number) = true
runs (GeneratePlan number) = false
runs Help = false
runs Bare = false
runs Version = false

-- it runs no network, so that there is no journal
abbrev pub RunsNothing : Command → Type 0
RunsNothing command = runs command ≡ false

-- what it prints for the octets of an input, where its run has these ticks
abbrev pub Output : Command → List ℕ → List Tick → List ℕ → Type 0
Output Ledger octets ticks text = LedgerOutput octets text
Output Check octets ticks text = CheckOutput octets text
Output Explain octets ticks text = IsExplained ScenarioFile (ending (scenario_input octets)) octets text
Output ExplainLedger octets ticks text = IsExplained LedgerFile (ending (ledger_input octets)) octets text
Output ExplainGroups octets ticks text = IsExplained GroupFile (ending (group_input octets)) octets text
Output ExplainPlan octets ticks text = IsExplained PlanFile (ending (plan_input octets)) octets text
Output ExplainAudit octets ticks text = IsAuditExplained octets text
Output Run octets ticks text = RunOutput AreCanonicalTicks report_alone octets ticks text
Output RunJournal octets ticks text = RunOutput AreCanonicalTicks report_and_journal octets ticks text
Output RunBounds octets ticks text = RunOutput AreCanonicalTicks report_and_bounds octets ticks text
Output (RunCapture link) octets ticks text = CaptureOutput link octets ticks text
Output Ports octets ticks text = RunOutput AreLegalTicks report_alone octets ticks text
Output PortsJournal octets ticks text = RunOutput AreLegalTicks report_and_journal octets ticks text
Output Margins octets ticks text = RunOutput AreCanonicalTicks margins_alone octets ticks text
Output Delays octets ticks text = DelaysOutput octets ticks text
Output Wishes octets ticks text = PlanOutput octets ticks text
Output StrictWishes octets ticks text = PlanOutput octets ticks text
Output Expand octets ticks text = IsExpanded octets text
Output Audit octets ticks text = AuditOutput octets text
Output AuditLong octets ticks text = AuditOutput octets text
Output Groups octets ticks text = GroupsOutput octets text
Output (Decode form) octets ticks text = text ≡ decoded_text form octets
Output Capture octets ticks text = text ≡ captured_text octets
Output Replay octets ticks text = replay_input octets ≡ Ok text
Output (Generate number) octets ticks text = GeneratedOutput number ticks text
Output (GeneratePlan number) octets ticks text = IsGeneratedPlan number text
Output Help octets ticks text = text ≡ help_page
Output Bare octets ticks text = text ≡ help_page
Output Version octets ticks text = text ≡ version_page

-- whether it ends so behind its output, where its run has these ticks: the output of one command may
-- say no, and the page of help goes out for no word too, which is no command
abbrev pub IsVerdict : Command → List ℕ → List Tick → Cause → Type 0
IsVerdict StrictWishes octets ticks cause = IsStrictVerdict octets ticks cause
IsVerdict Bare octets ticks cause = cause ≡ NoWords
IsVerdict command octets ticks cause = cause ≡ Done

-- whether it ends so for the octets of an input, where nothing fails and memory lasts; whether the
-- output says no is left open
abbrev pub IsEndingOf : Command → List ℕ → Cause → Type 0
IsEndingOf Ledger octets cause = cause ≡ ending (ledger_input octets)
IsEndingOf Check octets cause = cause ≡ ending (scenario_input octets)
IsEndingOf Explain octets cause = cause ≡ Done
IsEndingOf ExplainLedger octets cause = cause ≡ Done
IsEndingOf ExplainAudit octets cause = cause ≡ Done
IsEndingOf ExplainGroups octets cause = cause ≡ Done
IsEndingOf ExplainPlan octets cause = cause ≡ Done
IsEndingOf Run octets cause = cause ≡ ending (scenario_input octets)
IsEndingOf RunJournal octets cause = cause ≡ ending (scenario_input octets)
IsEndingOf RunBounds octets cause = cause ≡ ending (scenario_input octets)
IsEndingOf (RunCapture link) octets cause = cause ≡ ending (link_input link octets)
IsEndingOf Ports octets cause = cause ≡ ending (scenario_input octets)
IsEndingOf PortsJournal octets cause = cause ≡ ending (scenario_input octets)
IsEndingOf Margins octets cause = cause ≡ ending (scenario_input octets)
IsEndingOf Delays octets cause = cause ≡ ending (scenario_input octets)
IsEndingOf Wishes octets cause = cause ≡ ending (any_scenario_input octets)
IsEndingOf StrictWishes octets cause = cause ≡ ending (any_scenario_input octets)
IsEndingOf Expand octets cause = cause ≡ ending (plan_input octets)
IsEndingOf Audit octets cause = IsAuditEnding octets cause
IsEndingOf AuditLong octets cause = IsAuditEnding octets cause
IsEndingOf Groups octets cause = cause ≡ ending (group_input octets)
IsEndingOf (Decode form) octets cause = cause ≡ Done
IsEndingOf Capture octets cause = cause ≡ Done
IsEndingOf Replay octets cause = cause ≡ ending (replay_input octets)
IsEndingOf (Generate number) octets cause = cause ≡ Done
IsEndingOf (GeneratePlan number) octets cause = cause ≡ Done
IsEndingOf Help octets cause = cause ≡ Done
IsEndingOf Bare octets cause = cause ≡ Done
IsEndingOf Version octets cause = cause ≡ Done
