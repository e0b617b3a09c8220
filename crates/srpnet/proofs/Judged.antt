-- How a command ends where its octets are judged: it is done, or they are refused; so where making its output fails, neither
-- reading nor writing is the cause.
use Rattle.std.proofs.Common.{◌≡◌, ℕ, Bool, true, false, List, length, refl, sym, subst, inl, inr, Option, Some, None, Ok, Err}
use Rattle.std.specs.Prelude.{Result, IfErr, if◌then◌else◌, ◌&&◌, nat_le}
use Rattle.srp_base.specs.Results.{◌>>=◌}
use Rattle.toml.specs.Data.{Members}
use Rattle.toml_rules.specs.declared.{rules.RuleErr.RuleErr, rules.RuleErr.TheVariants.Rule, rules.RuleErr.TheVariants.NoMemory as no_memory}
use Rattle.srpnet.specs.{Command, Ledger, Check, Explain, ExplainLedger, ExplainAudit, Run, RunJournal, RunBounds, RunCapture, Wishes, StrictWishes, Expand, Replay, ExplainGroups, ExplainPlan, Ports, PortsJournal, Margins, Delays, Audit, AuditLong, Groups, Decode, Capture, Generate, GeneratePlan, Help, Version, Cause, Done, BadWords, ReadFault, TooLong, NotToml, BadScenario, WriteFault, AuditNo, NoMemory, NotGranted, NoLink, NoWords, Bare, any_scenario_of, as_cause, link_input, with_link, audit_parts, IsAudited, IsAuditedBy, IsAuditedOf, IsEndingOf, reads_input, document, or_not_toml, starts_threads, by_rules, ending, input_of, ledger_file, EndsAs, EndsBy, LacksOutput, scenario_input}
use Rattle.srpnet.specs.AuditParts.{AuditParts}
use Rattle.topology_file.specs.{Plan.Plan, Scenario.scenario_of}
use Rattle.group_file.specs.Scenario.{group_scenario_of}
use Rattle.plan_file.specs.Rules.{plan_of}
use Rattle.replay_words.specs.{Replay.replayed, declared.error.ReplayErr.ReplayErr}
use Rattle.replay_words.specs.declared.error.ReplayErr.TheVariants as replay

-- the causes with which octets may end that are judged
abbrev pub IsJudged : Cause → Type 0
IsJudged Done = Unit {0}
IsJudged NotToml = Unit {0}
IsJudged (BadScenario rule entry) = Unit {0}
IsJudged (AuditNo line why) = Unit {0}
IsJudged NoLink = Unit {0}
IsJudged NoMemory = Unit {0}
IsJudged BadWords = ⊥
IsJudged ReadFault = ⊥
IsJudged TooLong = ⊥
IsJudged (WriteFault written) = ⊥
IsJudged (NotGranted wishes) = ⊥
IsJudged NoWords = ⊥

rules_judge : {A : Type 0} (r : Result A RuleErr) → IsJudged (ending (by_rules r))
rules_judge (Ok x) = tt
rules_judge (Err (Rule rule entry)) = tt
rules_judge (Err no_memory) = tt

document_judged : {A : Type 0} (rules : Members → Result A RuleErr) (d : Option Members)
    → IsJudged (ending (or_not_toml d >>= (λ ms. by_rules (rules ms))))
document_judged rules None = tt
document_judged rules (Some ms) = rules_judge (rules ms)

-- what ends as octets are judged has such a cause
judged_as : (cause judged : Cause) → IsJudged judged → cause ≡ judged → IsJudged cause
judged_as cause judged is same = subst IsJudged (sym same) is

audited : (plan : Plan) (parts : AuditParts) (cause : Cause) → IsAudited plan parts cause → IsJudged cause
audited plan parts Done is = tt
audited plan parts (AuditNo line why) is = tt
audited plan parts BadWords is = absurd is
audited plan parts ReadFault is = absurd is
audited plan parts TooLong is = absurd is
audited plan parts NotToml is = tt
audited plan parts (BadScenario rule entry) is = tt
audited plan parts (WriteFault written) is = absurd is
audited plan parts NoMemory is = tt
audited plan parts (NotGranted wishes) is = absurd is
audited plan parts NoWords is = absurd is
audited plan parts NoLink is = tt

audited_by : (parts : AuditParts) (scenario : Result Plan Cause) (cause : Cause) → IsJudged (ending scenario) → IsAuditedBy parts scenario cause → IsJudged cause
audited_by parts (Ok plan) cause judged is = audited plan parts cause is
audited_by parts (Err refusal) cause judged is = judged_as cause refusal judged is

audit_judged : (parts : Option AuditParts) (cause : Cause) → IsAuditedOf parts cause → IsJudged cause
audit_judged None cause is = judged_as cause (AuditNo 0 1) tt is
audit_judged (Some parts) cause is = audited_by parts (scenario_input parts.scenario) cause (document_judged scenario_of (document parts.scenario)) is

link_judged : (n : ℕ) (plan : Plan) (b : Bool) → IsJudged (ending (if b then Ok plan else Err NoLink))
link_judged n plan true = tt
link_judged n plan false = tt

with_link_judged : (n : ℕ) (scenario : Result Plan Cause) → IsJudged (ending scenario) → IsJudged (ending (scenario >>= with_link n))
with_link_judged n (Ok plan) judged = link_judged n plan (nat_le 1 n && nat_le n (length plan.tree.links))
with_link_judged n (Err cause) judged = judged

replay_judged : (r : Result (List ℕ) ReplayErr) → IsJudged (ending (as_cause r))
replay_judged (Ok text) = tt
replay_judged (Err replay.NoLine) = tt
replay_judged (Err replay.NotToml) = tt
replay_judged (Err (replay.Rule rule entry)) = tt
replay_judged (Err replay.NoMemory) = tt

-- the octets of every command are judged
pub command_judges : (command : Command) (octets : List ℕ) (cause : Cause) → IsEndingOf command octets cause → IsJudged cause
command_judges Ledger octets cause is = judged_as cause _ (document_judged ledger_file (document octets)) is
command_judges Check octets cause is = judged_as cause _ (document_judged scenario_of (document octets)) is
command_judges Explain octets cause is = judged_as cause Done tt is
command_judges ExplainLedger octets cause is = judged_as cause Done tt is
command_judges ExplainAudit octets cause is = judged_as cause Done tt is
command_judges ExplainGroups octets cause is = judged_as cause Done tt is
command_judges ExplainPlan octets cause is = judged_as cause Done tt is
command_judges Run octets cause is = judged_as cause _ (document_judged scenario_of (document octets)) is
command_judges RunJournal octets cause is = judged_as cause _ (document_judged scenario_of (document octets)) is
command_judges RunBounds octets cause is = judged_as cause _ (document_judged scenario_of (document octets)) is
command_judges (RunCapture link) octets cause is =
    judged_as cause _ (with_link_judged link (scenario_input octets) (document_judged scenario_of (document octets))) is
command_judges Ports octets cause is = judged_as cause _ (document_judged scenario_of (document octets)) is
command_judges PortsJournal octets cause is = judged_as cause _ (document_judged scenario_of (document octets)) is
command_judges Margins octets cause is = judged_as cause _ (document_judged scenario_of (document octets)) is
command_judges Delays octets cause is = judged_as cause _ (document_judged scenario_of (document octets)) is
command_judges Wishes octets cause is = judged_as cause _ (document_judged any_scenario_of (document octets)) is
command_judges StrictWishes octets cause is = judged_as cause _ (document_judged any_scenario_of (document octets)) is
command_judges Expand octets cause is = judged_as cause _ (document_judged plan_of (document octets)) is
command_judges Audit octets cause is = audit_judged (audit_parts octets) cause is
command_judges AuditLong octets cause is = audit_judged (audit_parts octets) cause is
command_judges Groups octets cause is = judged_as cause _ (document_judged group_scenario_of (document octets)) is
command_judges (Decode form) octets cause is = judged_as cause Done tt is
command_judges Capture octets cause is = judged_as cause Done tt is
command_judges Replay octets cause is = judged_as cause _ (replay_judged (replayed octets)) is
command_judges (Generate number) octets cause is = judged_as cause Done tt is
command_judges (GeneratePlan number) octets cause is = judged_as cause Done tt is
command_judges Help octets cause is = judged_as cause Done tt is
command_judges Bare octets cause is = judged_as cause Done tt is
command_judges Version octets cause is = judged_as cause Done tt is

-- an answer that ends so has such a cause, where it has one
pub judged_err : {X : Type 0} (IsRight : Cause → Type 0) (answer : Result X Cause) → ((cause : Cause) → IsRight cause → IsJudged cause)
    → EndsBy IsRight answer → IfErr answer IsJudged
judged_err IsRight (Ok x) judged ends = tt
judged_err IsRight (Err cause) judged (inl is) = judged cause is
judged_err IsRight (Err cause) judged (inr is) = subst IsJudged (sym is) tt

cause_lacks : (cause : Cause) → IsJudged cause → (cause ≡ Done → ⊥) → LacksOutput cause
cause_lacks Done judged not_done = not_done refl
cause_lacks NotToml judged not_done = tt
cause_lacks (BadScenario rule entry) judged not_done = tt
cause_lacks (AuditNo line why) judged not_done = tt
cause_lacks NoMemory judged not_done = tt
cause_lacks BadWords judged not_done = absurd judged
cause_lacks ReadFault judged not_done = absurd judged
cause_lacks TooLong judged not_done = absurd judged
cause_lacks (WriteFault written) judged not_done = absurd judged
cause_lacks (NotGranted wishes) judged not_done = absurd judged
cause_lacks NoWords judged not_done = absurd judged
cause_lacks NoLink judged not_done = tt

-- and if it isn't called done, it lacks an output
pub lacks_output : {X : Type 0} (answer : Result X Cause) → IfErr answer IsJudged → IfErr answer (λ c. c ≡ Done → ⊥)
    → IfErr answer LacksOutput
lacks_output (Ok x) judged not_done = tt
lacks_output (Err cause) judged not_done = cause_lacks cause judged not_done

-- neither reading nor writing is its cause
pub not_reading : {X : Type 0} (cause : Cause) (answer : Result X Cause) → IfErr answer IsJudged → answer ≡ Err cause → IsJudged cause
not_reading cause answer judged is = subst (λ r. IfErr r IsJudged) is judged

-- a command that starts threads reads an input
pub threads_read : (command : Command) → starts_threads command ≡ true → reads_input command ≡ true
threads_read Ledger threads = refl
threads_read Check threads = refl
threads_read Explain threads = refl
threads_read ExplainLedger threads = refl
threads_read ExplainAudit threads = refl
threads_read ExplainGroups threads = refl
threads_read ExplainPlan threads = refl
threads_read Run threads = refl
threads_read RunJournal threads = refl
threads_read RunBounds threads = refl
threads_read (RunCapture link) threads = refl
threads_read Ports threads = refl
threads_read PortsJournal threads = refl
threads_read Margins threads = refl
threads_read Delays threads = refl
threads_read Wishes threads = refl
threads_read StrictWishes threads = refl
threads_read Expand threads = refl
threads_read Audit threads = refl
threads_read AuditLong threads = refl
threads_read Groups threads = refl
threads_read (Decode form) threads = refl
threads_read Capture threads = refl
threads_read Replay threads = refl
threads_read (Generate number) threads = threads
threads_read (GeneratePlan number) threads = threads
threads_read Help threads = threads
threads_read Bare threads = threads
threads_read Version threads = threads
