-- An audit: how many lines there may be, and what is said of a report that is compared piece by piece.
use Rattle.std.proofs.Common.{◌≡◌, ◌≢◌, ℕ, zero, suc, ◌+◌, ◌-◌, ◌<◌, ◌≤◌, List, [], ◌∷◌, ◌++◌, length, take, drop, refl, sym, ap, subst, ◌∙◌, inl, inr, arith, eqb, append-nil, append_assoc, Option, Some, None}
use Rattle.std.proofs.lemmas.{Bool.cases_Bool, Bool.Decides.nat_tests, List.length-take-le, List.length-drop, List.take_all}
use Rattle.std.specs.Prelude.{nat_le}
use Rattle.std.proofs.Math.Seq.{take-add}
use Rattle.topology_file.specs.Plan.{Plan}
use Rattle.journal_audit.specs.{Texts.lines_of, Texts.with_octet, Form.AreFormed, Journal.ticks_lines, Audit.IsFirstIllegal, Audit.IsJournalOf, Audit.IsRefusal, Audit.known_of}
use Rattle.world_core.specs.declared.journal.Tick.{Tick}
use Rattle.world_core.specs.{Ticks.AreLegalTicks, World.WorldState}
use Rattle.frame_flow.specs.declared.result.PortFlow.{PortFlow}
use Rattle.srp_base.specs.declared.ports.PortChange.{PortChange}
use Rattle.srp_report.specs.Report.{report_text}
use Rattle.srpnet.specs.AuditParts.{AuditParts}
use Rattle.srpnet.specs.{IsApproved, IsRunOf, IsRun, DifferAtOnce, IsFirstDifferent, line_feeds}
use Rattle.srpnet.proofs.LineLemmas.{differ_behind}

with_count : (c : ℕ) (ls : List (List ℕ)) → length (with_octet c ls) ≤ suc (length ls)
with_count c [] = omega arith
with_count c (l ∷ ls) = omega arith

-- a text has no more lines than octets
pub lines_few : (text : List ℕ) → length (lines_of text) ≤ length text
lines_few [] = omega arith
lines_few (c ∷ text) = elim (cases_Bool (eqb c 10)) [
  | inl is ↦ rw is (let rest = lines_few text in omega (arith, rest))
  | inr differs ↦ rw differs (let rest = lines_few text in let one = with_count c (lines_of text) in omega (arith, rest, one))
]

-- where one more element makes a difference there is one more, or they have just ended
counted : (P : List (List ℕ) → Type 0) (lines : List (List ℕ)) (count : ℕ) → P (take count lines) → (P (take (suc count) lines) → ⊥) → count ≤ length lines
counted P lines count before here = elim (cases_Bool (nat_le count (length lines))) [
  | inl is ↦ grind (arith, nat_tests)
  | inr off ↦
      let past : length lines < count = grind (arith, nat_tests) in
      absurd (here (subst P (take_all count lines (omega (arith, past)) ∙ sym (take_all (suc count) lines (omega (arith, past)))) before))
]

-- the first so many lines of legal ticks are no more than a text has, where none has one more
agreed : (plan : Plan) (text : List ℕ) (count : ℕ) → IsFirstIllegal plan text count → count ≤ length (lines_of text)
agreed plan text count is = elim (cases_Bool (nat_le count (length (lines_of text)))) [
  | inl le ↦ grind (arith, nat_tests)
  | inr off ↦
      let past : length (lines_of text) < count = grind (arith, nat_tests) in
      let ticks = is.before.0 in
      let made = ticks_lines plan 0 ticks in
      let same : take count made ≡ lines_of text = is.before.3 ∙ take_all count (lines_of text) (omega (arith, past)) in
      let short : length made ≤ count = ended made (lines_of text) count past same in
      let more = take_all (suc count) made (omega (arith, short)) ∙ sym (take_all count made short) ∙ same in
      absurd (is.here (ticks, is.before.1, is.before.2, more ∙ sym (take_all (suc count) (lines_of text) (omega (arith, past)))))
]
  where
    ended : (xs ys : List (List ℕ)) (n : ℕ) → length ys < n → take n xs ≡ ys → length xs ≤ n
    ended xs ys n lt is = elim (cases_Bool (nat_le (length xs) n)) [
      | inl le ↦ grind (arith, nat_tests)
      | inr off ↦
          let more : n < length xs = grind (arith, nat_tests) in
          let size : length ys ≡ n = ap length (sym is) ∙ length-take-le n xs (omega (arith, more)) in
          absurd (omega (arith, size, lt))
    ]

-- a line that is refused is one of the text, or the one past the last
pub refused_line : (plan : Plan) (text : List ℕ) (line why : ℕ) → IsRefusal plan text line why → line ≤ suc (length text)
refused_line plan text line why is =
    let few = lines_few text in
    let from = is.0 in
    elim is.1 [
      | inl unformed ↦
          let le = counted (AreFormed (known_of plan) 0) (lines_of text) (line - 1) unformed.1.before unformed.1.here in
          omega (arith, few, le, from)
      | inr illegal ↦ let le = agreed plan text (line - 1) illegal.2 in omega (arith, few, le, from)
    ]

-- what is no value is none
pub nothing : {A : Type 0} (o : Option A) → ((x : A) → o ≡ Some x → ⊥) → o ≡ None
nothing None never = refl
nothing (Some x) never = absurd (never x refl)

-- ---- a report that is compared piece by piece

-- the text that is wanted is what was given so far, and then what is left of it
pub record IsCompared (given wanted rest : List ℕ) (at lines : ℕ) : Type 0 where
  pub within : at ≤ length given
  pub same : wanted ≡ take at given ++ rest
  pub count : lines ≡ line_feeds (take at given)
  pub few : lines ≤ at

feeds_append : (xs ys : List ℕ) → line_feeds (xs ++ ys) ≡ line_feeds xs + line_feeds ys
feeds_append [] ys = omega arith
feeds_append (x ∷ xs) ys = elim (cases_Bool (eqb x 10)) [
  | inl is ↦ rw is (let rest = feeds_append xs ys in omega (arith, rest))
  | inr off ↦ rw off (feeds_append xs ys)
]

split_at : (n : ℕ) (xs : List ℕ) → take n xs ++ drop n xs ≡ xs
split_at n xs = sym (take-drop n xs)
  where
    take-drop : (n : ℕ) (xs : List ℕ) → xs ≡ take n xs ++ drop n xs
    take-drop zero xs = refl
    take-drop (suc n) [] = refl
    take-drop (suc n) (x ∷ xs) = ap (λ (l : List ℕ). x ∷ l) (take-drop n xs)

differ_more : (one other more : List ℕ) → DifferAtOnce one other → other ≢ [] → DifferAtOnce one (other ++ more)
differ_more [] other more differ some = tt
differ_more (c ∷ one) [] more differ some = absurd (some refl)
differ_more (c ∷ one) (d ∷ other) more differ some = differ

never_same : (one other : List ℕ) → DifferAtOnce one other → other ≢ [] → one ≢ other
never_same [] other differ some = λ is. some (sym is)
never_same (c ∷ one) [] differ some = λ is. some refl
never_same (c ∷ one) (d ∷ other) differ some = λ is. let heads : c ≡ d = cc in differ heads

some_left : (n : ℕ) (xs : List ℕ) → n < length xs → drop n xs ≢ []
some_left n xs lt is = let size = length-drop n xs in let none : length (drop n xs) ≡ 0 = ap length is in omega (arith, size, none, lt)

append_some : (xs ys : List ℕ) → xs ≢ [] → xs ++ ys ≢ []
append_some [] ys some = λ is. some refl
append_some (x ∷ xs) ys some = λ is. cc

module _ (given wanted rest : List ℕ) (at lines : ℕ) (so_far : IsCompared given wanted rest at lines) where
  all_same : rest ≡ [] → wanted ≡ take at given
  all_same none = so_far.same ∙ ap (λ (l : List ℕ). take at given ++ l) none ∙ append-nil (take at given)

  -- at the end of what is wanted more was given
  pub more_given : rest ≡ [] → at < length given → IsFirstDifferent given wanted lines
  more_given none lt =
      let ahead = drop at given in
      let one_more : DifferAtOnce ahead [] = never_both ahead in
      let differs = differ_behind (take at given) ahead [] one_more (some_left at given lt) in
      subst (λ (n : ℕ). IsFirstDifferent given wanted n) (sym so_far.count)
      (subst (λ (g : List ℕ). IsFirstDifferent g wanted (line_feeds (take at given))) (split_at at given)
      (subst (λ (w : List ℕ). IsFirstDifferent (take at given ++ ahead) w (line_feeds (take at given))) (append-nil (take at given) ∙ sym (all_same none)) differs))
    where
      never_both : (xs : List ℕ) → DifferAtOnce xs []
      never_both [] = tt
      never_both (x ∷ xs) = tt

  -- the next piece of what is wanted has so many octets in common with what was given behind
  module _ (piece next : List ℕ) (split : rest ≡ piece ++ next) (n more : ℕ) (in_given : n ≤ length (drop at given)) (in_piece : n ≤ length piece)
      (same : take n (drop at given) ≡ take n piece) (counted_more : more ≡ line_feeds (take n (drop at given))) (few_more : more ≤ n) where
    front_is : take (at + n) given ≡ take at given ++ take n (drop at given)
    front_is = take-add at n given

    feeds_are : lines + more ≡ line_feeds (take (at + n) given)
    feeds_are =
        let sum = feeds_append (take at given) (take n (drop at given)) in
        let front = ap line_feeds front_is in
        let count = so_far.count in
        omega (arith, sum, front, count, counted_more)

    pub within_given : at + n ≤ length given
    within_given = let size = length-drop at given in let within = so_far.within in omega (arith, size, in_given, within)

    pub piece_same : length piece ≤ n → IsCompared given wanted next (at + n) (lines + more)
    piece_same le =
        let whole : take n piece ≡ piece = take_all n piece le in
        let few = so_far.few in
        record {
          within = within_given;
          same =
              so_far.same ∙ ap (λ (l : List ℕ). take at given ++ l) split ∙ sym (append_assoc (take at given) piece next)
              ∙ ap (λ (l : List ℕ). l ++ next) (ap (λ (l : List ℕ). take at given ++ l) (sym (same ∙ whole)) ∙ sym front_is);
          count = feeds_are;
          few = omega (arith, few, few_more);
        }

    pub piece_differs : n < length piece → DifferAtOnce (drop n (drop at given)) (drop n piece) → IsFirstDifferent given wanted (lines + more)
    piece_differs lt differ =
        let front = take (at + n) given in
        let one = drop n (drop at given) in
        let other = drop n piece ++ next in
        let some = some_left n piece lt in
        let at_once = differ_more one (drop n piece) next differ some in
        let differs = differ_behind front one other at_once (never_same one other at_once (append_some (drop n piece) next some)) in
        let given_is : front ++ one ≡ given =
        ap (λ (l : List ℕ). l ++ one) front_is ∙ append_assoc (take at given) (take n (drop at given)) one
        ∙ ap (λ (l : List ℕ). take at given ++ l) (split_at n (drop at given)) ∙ split_at at given
        in
        let wanted_is : front ++ other ≡ wanted =
        ap (λ (l : List ℕ). l ++ other) (front_is ∙ ap (λ (l : List ℕ). take at given ++ l) same) ∙ append_assoc (take at given) (take n piece) other
        ∙ ap (λ (l : List ℕ). take at given ++ l) (sym (append_assoc (take n piece) (drop n piece) next) ∙ ap (λ (l : List ℕ). l ++ next) (split_at n piece) ∙ sym split)
        ∙ sym so_far.same
        in
        subst (λ (k : ℕ). IsFirstDifferent given wanted k) (sym feeds_are)
        (subst (λ (g : List ℕ). IsFirstDifferent g wanted (line_feeds front)) given_is
        (subst (λ (w : List ℕ). IsFirstDifferent (front ++ one) w (line_feeds front)) wanted_is differs))

-- ---- no only where yes doesn't hold

-- with a text of which no legal ticks are, the answer isn't yes
pub none_approved : (plan : Plan) (parts : AuditParts) → ((ticks : List Tick) (world : WorldState) → IsJournalOf plan parts.journal ticks world → ⊥)
    → IsApproved plan parts → ⊥
none_approved plan parts none approved = none approved.ticks approved.world (record { legal = approved.run.run.lead; text_is = approved.run.spelled })

-- a run of a text, and its journal
pub run_of_journal : (plan : Plan) (text : List ℕ) (ticks : List Tick) (world : WorldState) (flows : List PortFlow) → IsRunOf plan text ticks world flows
    → IsJournalOf plan text ticks world
run_of_journal plan text ticks world flows run = record { legal = run.run.lead; text_is = run.spelled }

module _ (plan : Plan)
    (one_journal : (text : List ℕ) (ticks others : List Tick) (end last : WorldState) → IsJournalOf plan text ticks end → IsJournalOf plan text others last → ticks ≡ others)
    (one_end : (text : List ℕ) (ticks others : List Tick) (end last : WorldState) → IsJournalOf plan text ticks end → IsJournalOf plan text others last → end ≡ last)
    (one_flow : (ticks : List Tick) (world : WorldState) (changes others : List PortChange) (flows last : List PortFlow)
    → IsRun AreLegalTicks plan ticks world changes flows → IsRun AreLegalTicks plan ticks world others last → flows ≡ last)
    (parts : AuditParts) where
  -- a legal run with this text, of which no more is known, has the report of each other
  pub report_is : (ticks others : List Tick) (world end : WorldState) (changes : List PortChange) (flows last : List PortFlow)
      → IsRun AreLegalTicks plan ticks world changes flows → IsJournalOf plan parts.journal ticks world → IsRunOf plan parts.journal others end last
      → report_text plan world ticks flows ≡ report_text plan end others last
  report_is ticks others world end changes flows last run here other =
      let there = run_of_journal plan parts.journal others end last other in
      let ticks_are : ticks ≡ others = one_journal parts.journal ticks others world end here there in
      let world_is : world ≡ end = one_end parts.journal ticks others world end here there in
      let moved : IsRun AreLegalTicks plan others end changes flows =
      subst (λ (w : WorldState). IsRun AreLegalTicks plan others w changes flows) world_is
      (subst (λ (ts : List Tick). IsRun AreLegalTicks plan ts world changes flows) ticks_are run) in
      let flows_are : flows ≡ last = one_flow others end changes other.changes flows last moved other.run in
      ap (λ (w : WorldState). report_text plan w ticks flows) world_is ∙ ap (λ (ts : List Tick). report_text plan end ts flows) ticks_are
      ∙ ap (λ (fs : List PortFlow). report_text plan end others fs) flows_are

  -- two legal runs with one text have one report
  pub same_run : (ticks others : List Tick) (world end : WorldState) (flows last : List PortFlow) → IsRunOf plan parts.journal ticks world flows
      → IsRunOf plan parts.journal others end last → report_text plan world ticks flows ≡ report_text plan end others last
  same_run ticks others world end flows last one other =
      report_is ticks others world end one.changes flows last one.run (run_of_journal plan parts.journal ticks world flows one) other

  -- nor is it yes with a report that differs from that of a legal run with this text
  pub other_report : (ticks : List Tick) (world : WorldState) (flows : List PortFlow) (count : ℕ) → IsRunOf plan parts.journal ticks world flows
      → IsFirstDifferent parts.report (report_text plan world ticks flows) count → IsApproved plan parts → ⊥
  other_report ticks world flows count run differs approved =
      differs.here
      (ap (λ (text : List ℕ). take (suc count) (lines_of text))
      (approved.reported ∙ same_run approved.ticks ticks approved.world world approved.flows flows approved.run run))
