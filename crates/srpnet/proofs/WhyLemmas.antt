-- Why an audit's answer is no, and that each why is answered wherever it is the cause.
use Rattle.std.proofs.Common.{◌≡◌, ◌≤◌, ℕ, suc, ◌+◌, List, refl, sym, ap, subst, ◌∙◌, inl, inr, arith, Option, Some, None, Ok, Err}
use Rattle.std.specs.Prelude.{◌↔◌, Result}
use Rattle.srp_base.specs.Results.{◌>>=◌}
use Rattle.srp_base.specs.declared.ports.PortChange.{PortChange}
use Rattle.frame_flow.specs.declared.result.PortFlow.{PortFlow}
use Rattle.toml.specs.Data.{Members}
use Rattle.toml_rules.specs.declared.{rules.RuleErr.RuleErr, rules.RuleErr.TheVariants.Rule, rules.RuleErr.TheVariants.NoMemory as no_memory}
use Rattle.topology_file.specs.{Plan.Plan, Scenario.KeepsRules, Scenario.scenario_of}
use Rattle.world_core.specs.declared.journal.Tick.{Tick}
use Rattle.world_core.specs.{Ticks.AreLegalTicks, World.WorldState}
use Rattle.journal_audit.specs.declared.{verdict.Verdict.Verdict, verdict.Verdict.TheVariants.No}
use Rattle.journal_audit.specs.{Texts.lines_of, Form.AreFormed, Form.IsFirstUnformed, Journal.journal_text, Audit.IsFirstIllegal, Audit.IsJournalOf, Audit.IsRefusal, Audit.IsVerdict, Audit.RefusesBehind as VerdictRefuses, Audit.known_of}
use Rattle.srp_report.specs.Report.{report_text}
use Rattle.srpnet.specs.{Cause, Done, AuditNo, BadWords, ReadFault, TooLong, NotToml, BadScenario, WriteFault, NoMemory, NotGranted, NoLink, NoWords, audit_parts, LacksPart, IsApproved, IsAudited, IsAuditedBy, IsAuditedOf, IsAuditEnding, IsReportRefused, RefusesBehind, document, or_not_toml, by_rules, IsRun, scenario_input}
use Rattle.srpnet.specs.AuditParts.{AuditParts}
use Rattle.srpnet.proofs.{AuditLemmas.other_report, AuditLemmas.report_is, AuditLemmas.run_of_journal, EndingLemmas.one_ending, PartingLemmas.no_parts}

-- a why of the journal, and what has to be so of it
pub why_exactly : (plan : Plan) (parts : AuditParts) (why : ℕ) (IsCause : ℕ → Type 0) → (why ≡ 4 → ⊥)
    → ((verdict : Verdict) (count : ℕ) → IsVerdict plan parts.journal verdict → (VerdictRefuses why verdict count ↔ IsCause count))
    → ((ticks : List Tick) (end : WorldState) (count : ℕ) → IsJournalOf plan parts.journal ticks end → IsCause count → ⊥)
    → (cause : Cause) (count : ℕ) → IsAudited plan parts cause → (RefusesBehind parts why cause count ↔ IsCause count)
why_exactly plan parts why IsCause other exactly never cause count audited = (out, back cause audited)
  where
    refused : IsAudited plan parts (AuditNo (parts.marked + suc count) why) → IsCause count
    refused (inl here, none) =
        let is = here.line_is in
        let number : here.number ≡ suc count = omega (arith, is) in
        (exactly (No here.number why) count (here.refused, here.none)).0 (ap (λ (n : ℕ). No n why) number)
    refused (inr here, none) = absurd (other here.why_is)

    out : cause ≡ AuditNo (parts.marked + suc count) why → IsCause count
    out e = refused (subst (IsAudited plan parts) e audited)

    same : (number y : ℕ) → No number y ≡ No (suc count) why → (number ≡ suc count) × (y ≡ why)
    same number y e = (cc, cc)

    at : (line y number : ℕ) → line ≡ parts.marked + number → No number y ≡ No (suc count) why → AuditNo line y ≡ AuditNo (parts.marked + suc count) why
    at line y number is e =
        let both = same number y e in
        ap (λ (n : ℕ). AuditNo n y) (is ∙ ap (λ (n : ℕ). parts.marked + n) both.0) ∙ ap (λ (z : ℕ). AuditNo (parts.marked + suc count) z) both.1

    back : (c : Cause) → IsAudited plan parts c → IsCause count → c ≡ AuditNo (parts.marked + suc count) why
    back Done h is = absurd (never h.ticks h.world count (run_of_journal plan parts.journal h.ticks h.world h.flows h.run) is)
    back (AuditNo line y) (inl here, none) is = at line y here.number here.line_is ((exactly (No here.number y) count (here.refused, here.none)).1 is)
    back (AuditNo line y) (inr here, none) is = absurd (never here.ticks here.world count (run_of_journal plan parts.journal here.ticks here.world here.flows here.run) is)
    back BadWords h is = absurd h
    back ReadFault h is = absurd h
    back TooLong h is = absurd h
    back NotToml h is = absurd h
    back (BadScenario rule entry) h is = absurd h
    back (WriteFault written) h is = absurd h
    back NoMemory h is = absurd h
    back (NotGranted wishes) h is = absurd h
    back NoWords h is = absurd h
    back NoLink h is = absurd h

-- ---- yes, and the report

-- the whys of a journal are 2 and 3
journal_whys : (plan : Plan) (text : List ℕ) (line why : ℕ) → IsRefusal plan text line why → (why ≡ 2 → ⊥) → (why ≡ 3 → ⊥) → ⊥
journal_whys plan text line why (some, inl (is, first)) two three = two is
journal_whys plan text line why (some, inr (is, all, first)) two three = three is

module _ (plan : Plan)
    (one_journal : (text : List ℕ) (ticks others : List Tick) (end last : WorldState) → IsJournalOf plan text ticks end → IsJournalOf plan text others last → ticks ≡ others)
    (one_end : (text : List ℕ) (ticks others : List Tick) (end last : WorldState) → IsJournalOf plan text ticks end → IsJournalOf plan text others last → end ≡ last)
    (one_flow : (ticks : List Tick) (world : WorldState) (changes others : List PortChange) (flows last : List PortFlow)
    → IsRun AreLegalTicks plan ticks world changes flows → IsRun AreLegalTicks plan ticks world others last → flows ≡ last)
    (formed_is : (text : List ℕ) (verdict : Verdict) (count : ℕ) → IsVerdict plan text verdict → (VerdictRefuses 2 verdict count ↔ IsFirstUnformed (known_of plan) text count))
    (illegal_is : (text : List ℕ) (verdict : Verdict) (count : ℕ) → IsVerdict plan text verdict
    → (VerdictRefuses 3 verdict count ↔ (AreFormed (known_of plan) 0 (lines_of text) × IsFirstIllegal plan text count)))
    (parts : AuditParts) (cause : Cause) (audited : IsAudited plan parts cause) where
  pub yes_exactly : (cause ≡ Done ↔ IsApproved plan parts)
  yes_exactly = (λ e. subst (IsAudited plan parts) e audited, λ approved. one_ending plan one_journal one_end one_flow formed_is illegal_is parts cause Done audited approved)

  pub report_exactly : (line : ℕ) → (cause ≡ AuditNo line 4 ↔ IsReportRefused plan parts line 4)
  report_exactly line = (λ e. out (subst (IsAudited plan parts) e audited), back)
    where
      out : IsAudited plan parts (AuditNo line 4) → IsReportRefused plan parts line 4
      out (inl here, none) = absurd (journal_whys plan parts.journal here.number 4 here.refused (λ e. omega (arith, e)) (λ e. omega (arith, e)))
      out (inr here, none) = here

      back : IsReportRefused plan parts line 4 → cause ≡ AuditNo line 4
      back here =
          let none = other_report plan one_journal one_end one_flow parts here.ticks here.world here.flows here.count here.run here.differs in
          one_ending plan one_journal one_end one_flow formed_is illegal_is parts cause (AuditNo line 4) audited (inr here, none)

  -- where the texts are those of a legal run the answer is yes, whatever else is known of the run
  pub yes_of_run : (ticks : List Tick) (world : WorldState) (changes : List PortChange) (flows : List PortFlow) → IsRun AreLegalTicks plan ticks world changes flows
      → parts.journal ≡ journal_text plan ticks → parts.report ≡ report_text plan world ticks flows → cause ≡ Done
  yes_of_run ticks world changes flows run journal report = by cause audited
    where
      here : IsJournalOf plan parts.journal ticks world
      here = record { legal = run.lead; text_is = journal }

      by : (c : Cause) → IsAudited plan parts c → c ≡ Done
      by Done h = refl
      by (AuditNo line y) (inl refused, none) = absurd (refused.none ticks world here)
      by (AuditNo line y) (inr other, none) =
          let is = report_is plan one_journal one_end one_flow parts ticks other.ticks world other.world changes flows other.flows run here other.run in
          absurd (none (record { ticks = other.ticks; world = other.world; flows = other.flows; run = other.run; reported = report ∙ is }))
      by BadWords h = absurd h
      by ReadFault h = absurd h
      by TooLong h = absurd h
      by NotToml h = absurd h
      by (BadScenario rule entry) h = absurd h
      by (WriteFault written) h = absurd h
      by NoMemory h = absurd h
      by (NotGranted wishes) h = absurd h
      by NoWords h = absurd h
      by NoLink h = absurd h

-- ---- the input

rules_refuse : (r : Result Plan RuleErr) (line why : ℕ) → by_rules r ≡ Err (AuditNo line why) → ⊥
rules_refuse (Ok plan) line why e = cc
rules_refuse (Err (Rule rule entry)) line why e = cc
rules_refuse (Err no_memory) line why e = cc

-- where no scenario is read, this isn't said as an audit's answer
not_read : (text : List ℕ) (line why : ℕ) → scenario_input text ≡ Err (AuditNo line why) → ⊥
not_read text line why = by (document text)
  where
    by : (d : Option Members) → (or_not_toml d >>= (λ ms. by_rules (scenario_of ms))) ≡ Err (AuditNo line why) → ⊥
    by None e = cc
    by (Some ms) e = rules_refuse (scenario_of ms) line why e

pub parts_exactly : (octets : List ℕ) (cause : Cause) (line : ℕ) → IsAuditEnding octets cause → (cause ≡ AuditNo line 1 ↔ (line ≡ 0) × LacksPart octets)
parts_exactly octets cause line audited = (λ e. out (audit_parts octets) refl (subst (IsAuditEnding octets) e audited), back)
  where
    read : (parts : AuditParts) (scenario : Result Plan Cause) → scenario_input parts.scenario ≡ scenario → IsAuditedBy parts scenario (AuditNo line 1) → ⊥
    read parts (Ok plan) is (inl here, none) = journal_whys plan parts.journal here.number 1 here.refused (λ e. omega (arith, e)) (λ e. omega (arith, e))
    read parts (Ok plan) is (inr here, none) = let four = here.why_is in omega (arith, four)
    read parts (Err refusal) is e = not_read parts.scenario line 1 (is ∙ ap Err (sym e))

    out : (parts : Option AuditParts) → audit_parts octets ≡ parts → IsAuditedOf parts (AuditNo line 1) → (line ≡ 0) × LacksPart octets
    out None is e = let at : line ≡ 0 = cc in (at, (no_parts octets).0 is)
    out (Some parts) is e = absurd (read parts (scenario_input parts.scenario) refl e)

    back : (line ≡ 0) × LacksPart octets → cause ≡ AuditNo line 1
    back (at, lacks) =
        let ends : cause ≡ AuditNo 0 1 = subst (λ (parts : Option AuditParts). IsAuditedOf parts cause) ((no_parts octets).1 lacks) audited in
        ends ∙ ap (λ (n : ℕ). AuditNo n 1) (sym at)

-- no other why is answered
pub whys_are : (octets : List ℕ) (cause : Cause) (line why : ℕ) → IsAuditEnding octets cause → cause ≡ AuditNo line why → (1 ≤ why) × (why ≤ 4)
whys_are octets cause line why audited is = of (audit_parts octets) (subst (IsAuditEnding octets) is audited)
  where
    at : (n : ℕ) → 1 ≤ n → n ≤ 4 → why ≡ n → (1 ≤ why) × (why ≤ 4)
    at n low high e = (omega (arith, low, e), omega (arith, high, e))

    refused : (plan : Plan) (text : List ℕ) (number : ℕ) → IsRefusal plan text number why → (1 ≤ why) × (why ≤ 4)
    refused plan text number (some, inl (e, first)) = at 2 (omega arith) (omega arith) e
    refused plan text number (some, inr (e, all, first)) = at 3 (omega arith) (omega arith) e

    read : (parts : AuditParts) (scenario : Result Plan Cause) → scenario_input parts.scenario ≡ scenario → IsAuditedBy parts scenario (AuditNo line why)
        → (1 ≤ why) × (why ≤ 4)
    read parts (Ok plan) reads (inl here, none) = refused plan parts.journal here.number here.refused
    read parts (Ok plan) reads (inr here, none) = at 4 (omega arith) (omega arith) here.why_is
    read parts (Err refusal) reads e = absurd (not_read parts.scenario line why (reads ∙ ap Err (sym e)))

    of : (parts : Option AuditParts) → IsAuditedOf parts (AuditNo line why) → (1 ≤ why) × (why ≤ 4)
    of None e = let one : why ≡ 1 = cc in at 1 (omega arith) (omega arith) one
    of (Some parts) e = read parts (scenario_input parts.scenario) refl e

-- what is read as a scenario keeps its rules
pub scenario_keeps : ((ms : Members) (plan : Plan) → scenario_of ms ≡ Ok plan → KeepsRules plan) → (text : List ℕ) (plan : Plan) → scenario_input text ≡ Ok plan → KeepsRules plan
scenario_keeps keeps text plan = by (document text)
  where
    read : (r : Result Plan RuleErr) → by_rules r ≡ Ok plan → r ≡ Ok plan
    read (Ok other) e = let same : other ≡ plan = cc in ap Ok same
    read (Err (Rule rule entry)) e = cc
    read (Err no_memory) e = cc

    by : (d : Option Members) → (or_not_toml d >>= (λ ms. by_rules (scenario_of ms))) ≡ Ok plan → KeepsRules plan
    by None e = absurd (none e)
      where
        none : ◌≡◌ {A = Result Plan Cause} (Err NotToml) (Ok plan) → ⊥
        none q = cc
    by (Some ms) e = keeps ms plan (read (scenario_of ms) e)

-- an input's audit ends one way where that of its parts does
pub one_input : ((ms : Members) (plan : Plan) → scenario_of ms ≡ Ok plan → KeepsRules plan)
    → ((plan : Plan) (parts : AuditParts) (one other : Cause) → KeepsRules plan → IsAudited plan parts one → IsAudited plan parts other → one ≡ other)
    → (octets : List ℕ) (one other : Cause) → IsAuditEnding octets one → IsAuditEnding octets other → one ≡ other
one_input keeps ends octets one other = of (audit_parts octets)
  where
    by : (parts : AuditParts) (scenario : Result Plan Cause) → scenario_input parts.scenario ≡ scenario → IsAuditedBy parts scenario one
        → IsAuditedBy parts scenario other → one ≡ other
    by parts (Ok plan) is here there = ends plan parts one other (scenario_keeps keeps parts.scenario plan is) here there
    by parts (Err refusal) is here there = here ∙ sym there

    of : (parts : Option AuditParts) → IsAuditedOf parts one → IsAuditedOf parts other → one ≡ other
    of None here there = here ∙ sym there
    of (Some parts) here there = by parts (scenario_input parts.scenario) refl here there
