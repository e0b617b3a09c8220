-- An audit ends one way: what is refused, where and why is told by its input alone.
use Rattle.std.proofs.Common.{◌≡◌, ℕ, suc, ◌+◌, ◌-◌, ◌≤◌, List, take, refl, sym, ap, subst, ◌∙◌, inl, inr, arith, take-take}
use Rattle.std.specs.Prelude.{◌↔◌}
use Rattle.std.proofs.lemmas.Bool.{cases_lt}
use Rattle.topology_file.specs.Plan.{Plan}
use Rattle.world_core.specs.declared.journal.Tick.{Tick}
use Rattle.world_core.specs.{Ticks.AreLegalTicks, World.WorldState}
use Rattle.frame_flow.specs.declared.result.PortFlow.{PortFlow}
use Rattle.srp_base.specs.declared.ports.PortChange.{PortChange}
use Rattle.journal_audit.specs.declared.{verdict.Verdict.Verdict, verdict.Verdict.TheVariants.No}
use Rattle.journal_audit.specs.{Audit.IsFirstIllegal, Audit.IsJournalOf, Audit.IsRefusal, Audit.IsVerdict, Audit.RefusesBehind, Audit.known_of, Form.AreFormed, Form.IsFirstUnformed, Texts.lines_of}
use Rattle.srp_report.specs.Report.{report_text}
use Rattle.srpnet.specs.{Cause, Done, AuditNo, BadWords, ReadFault, TooLong, NotToml, BadScenario, WriteFault, NoMemory, NotGranted, NoLink, NoWords, IsAudited, IsReportRefused, IsFirstDifferent, IsRun}
use Rattle.srpnet.specs.AuditParts.{AuditParts}
use Rattle.srpnet.proofs.AuditLemmas.{run_of_journal, same_run}

-- ---- the first of some numbers from which something doesn't hold

-- what holds of a number and of each lower one doesn't first fail behind two of them
one_first : (P : ℕ → Type 0) → ((m n : ℕ) → m ≤ n → P n → P m) → (a b : ℕ) → P a → (P (suc a) → ⊥) → P b → (P (suc b) → ⊥) → a ≡ b
one_first P down a b at_a past_a at_b past_b =
    elim (cases_lt a b) [
      | inl lt ↦ absurd (past_a (down (suc a) b (omega (arith, lt)) at_b))
      | inr le ↦
          elim (cases_lt b a) [
            | inl lt ↦ absurd (past_b (down (suc b) a (omega (arith, lt)) at_a))
            | inr other ↦ omega (arith, le, other)
          ]
    ]

same_down : (one other : List (List ℕ)) (m n : ℕ) → m ≤ n → take n one ≡ take n other → take m one ≡ take m other
same_down one other m n le is = sym (take-take m n one le) ∙ ap (λ (l : List (List ℕ)). take m l) is ∙ take-take m n other le

-- ---- one refusal

same_numbers : (number why number' why' : ℕ) → No number why ≡ No number' why' → (number ≡ number') × (why ≡ why')
same_numbers number why number' why' e = (cc, cc)

no_at : (line why line' why' : ℕ) → line ≡ line' → why ≡ why' → AuditNo line why ≡ AuditNo line' why'
no_at line why line' why' same_line same_why = ap (λ (l : ℕ). AuditNo l why) same_line ∙ ap (λ (w : ℕ). AuditNo line' w) same_why

-- ---- one ending

module _ (plan : Plan)
    (one_journal : (text : List ℕ) (ticks others : List Tick) (end last : WorldState) → IsJournalOf plan text ticks end → IsJournalOf plan text others last → ticks ≡ others)
    (one_end : (text : List ℕ) (ticks others : List Tick) (end last : WorldState) → IsJournalOf plan text ticks end → IsJournalOf plan text others last → end ≡ last)
    (one_flow : (ticks : List Tick) (world : WorldState) (changes others : List PortChange) (flows last : List PortFlow)
    → IsRun AreLegalTicks plan ticks world changes flows → IsRun AreLegalTicks plan ticks world others last → flows ≡ last)
    (formed_is : (text : List ℕ) (verdict : Verdict) (count : ℕ) → IsVerdict plan text verdict → (RefusesBehind 2 verdict count ↔ IsFirstUnformed (known_of plan) text count))
    (illegal_is : (text : List ℕ) (verdict : Verdict) (count : ℕ) → IsVerdict plan text verdict
    → (RefusesBehind 3 verdict count ↔ (AreFormed (known_of plan) 0 (lines_of text) × IsFirstIllegal plan text count)))
    (parts : AuditParts) where
  -- a text that is refused is refused so by every verdict
  one_refusal : (text : List ℕ) (number why number' why' : ℕ) → IsVerdict plan text (No number why) → IsRefusal plan text number' why' → No number why ≡ No number' why'
  one_refusal text number why number' why' one (some, inl (is, first)) =
      let at : suc (number' - 1) ≡ number' = omega (arith, some) in
      (formed_is text (No number why) (number' - 1) one).1 first ∙ ap (λ (n : ℕ). No n 2) at ∙ ap (λ (y : ℕ). No number' y) (sym is)
  one_refusal text number why number' why' one (some, inr (is, all, first)) =
      let at : suc (number' - 1) ≡ number' = omega (arith, some) in
      (illegal_is text (No number why) (number' - 1) one).1 (all, first) ∙ ap (λ (n : ℕ). No n 3) at ∙ ap (λ (y : ℕ). No number' y) (sym is)

  one_report : (line why line' why' : ℕ) → IsReportRefused plan parts line why → IsReportRefused plan parts line' why' → AuditNo line why ≡ AuditNo line' why'
  one_report line why line' why' one other =
      let text_is = same_run plan one_journal one_end one_flow parts one.ticks other.ticks one.world other.world one.flows other.flows one.run other.run in
      let given = lines_of parts.report in
      let wanted = lines_of (report_text plan other.world other.ticks other.flows) in
      let moved = subst (λ (t : List ℕ). IsFirstDifferent parts.report t one.count) text_is one.differs in
      let at = one_first (λ n. take n given ≡ take n wanted) (same_down given wanted) one.count other.count
      moved.before moved.here other.differs.before other.differs.here in
      no_at line why line' why' (one.line_is ∙ ap suc at ∙ sym other.line_is) (one.why_is ∙ sym other.why_is)

  one_no : (line why line' why' : ℕ) → IsAudited plan parts (AuditNo line why) → IsAudited plan parts (AuditNo line' why') → AuditNo line why ≡ AuditNo line' why'
  one_no line why line' why' one other =
      elim one.0 [
        | inl here ↦
            elim other.0 [
              | inl there ↦ (
                  let same = same_numbers here.number why there.number why' (one_refusal parts.journal here.number why there.number why' (here.refused, here.none) there.refused) in
                  no_at line why line' why' (here.line_is ∙ ap (λ (n : ℕ). parts.marked + n) same.0 ∙ sym there.line_is) same.1)
              | inr there ↦ absurd (here.none there.ticks there.world (run_of_journal plan parts.journal there.ticks there.world there.flows there.run))
            ]
        | inr here ↦
            elim other.0 [
              | inl there ↦ absurd (there.none here.ticks here.world (run_of_journal plan parts.journal here.ticks here.world here.flows here.run))
              | inr there ↦ one_report line why line' why' here there
            ]
      ]

  pub one_ending : (one other : Cause) → IsAudited plan parts one → IsAudited plan parts other → one ≡ other
  one_ending Done Done one other = refl
  one_ending Done (AuditNo line why) one other = absurd (other.1 one)
  one_ending (AuditNo line why) Done one other = absurd (one.1 other)
  one_ending (AuditNo line why) (AuditNo line' why') one other = one_no line why line' why' one other
  one_ending Done BadWords one other = absurd other
  one_ending Done ReadFault one other = absurd other
  one_ending Done TooLong one other = absurd other
  one_ending Done NotToml one other = absurd other
  one_ending Done (BadScenario rule entry) one other = absurd other
  one_ending Done (WriteFault written) one other = absurd other
  one_ending Done NoMemory one other = absurd other
  one_ending Done (NotGranted wishes) one other = absurd other
  one_ending Done NoWords one other = absurd other
  one_ending Done NoLink one other = absurd other
  one_ending (AuditNo line why) BadWords one other = absurd other
  one_ending (AuditNo line why) ReadFault one other = absurd other
  one_ending (AuditNo line why) TooLong one other = absurd other
  one_ending (AuditNo line why) NotToml one other = absurd other
  one_ending (AuditNo line why) (BadScenario rule entry) one other = absurd other
  one_ending (AuditNo line why) (WriteFault written) one other = absurd other
  one_ending (AuditNo line why) NoMemory one other = absurd other
  one_ending (AuditNo line why) (NotGranted wishes) one other = absurd other
  one_ending (AuditNo line why) NoWords one other = absurd other
  one_ending (AuditNo line why) NoLink one other = absurd other
  one_ending BadWords other one is = absurd one
  one_ending ReadFault other one is = absurd one
  one_ending TooLong other one is = absurd one
  one_ending NotToml other one is = absurd one
  one_ending (BadScenario rule entry) other one is = absurd one
  one_ending (WriteFault written) other one is = absurd one
  one_ending NoMemory other one is = absurd one
  one_ending (NotGranted wishes) other one is = absurd one
  one_ending NoWords other one is = absurd one
  one_ending NoLink other one is = absurd one
