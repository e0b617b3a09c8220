-- Each verdict's cause, and that it is answered wherever it is the cause.
use Rattle.std.proofs.Common.{◌≡◌, ℕ, zero, suc, ◌+◌, ◌-◌, ◌<◌, ◌≤◌, List, [], ◌∷◌, take, ap, subst, ◌∙◌, inl, inr, arith}
use Rattle.std.specs.Prelude.{◌↔◌, ◌⊎◌}
use Rattle.std.proofs.lemmas.Bool.{cases_lt}
use Rattle.topology_file.specs.Plan.{Plan}
use Rattle.world_core.specs.declared.journal.Tick.{Tick}
use Rattle.world_core.specs.World.{WorldState}
use Rattle.journal_audit.specs.{Known, Verdict, Legal, No, lines_of, AreFormed, IsFirstUnformed, ticks_lines, known_of, IsJournalOf, AgreesFor, IsFirstIllegal, IsRefusal, IsVerdict, RefusesBehind, ReplayLaws}
use Rattle.journal_audit.proofs.{ReadingLemmas.take_less, RunLemmas.none_is}

-- ---- one place alone

-- fewer lines are formed too
formed_take : (known : Known) (s count : ℕ) (lines : List (List ℕ)) → AreFormed known s lines → AreFormed known s (take count lines)
formed_take known s zero lines h = tt
formed_take known s (suc count) [] h = tt
formed_take known s (suc count) (line ∷ lines) (u, within, below, formed, rest) = (u, within, below, formed, formed_take known u count lines rest)

formed_less : (known : Known) (s few many : ℕ) (lines : List (List ℕ)) → few ≤ many → AreFormed known s (take many lines) → AreFormed known s (take few lines)
formed_less known s zero many lines le h = tt
formed_less known s (suc few) zero lines le h = absurd (omega (arith, le))
formed_less known s (suc few) (suc many) [] le h = tt
formed_less known s (suc few) (suc many) (line ∷ lines) le (u, within, below, formed, rest) = (u, within, below, formed, formed_less known u few many lines (omega (arith, le)) rest)

unformed_upto : (known : Known) (text : List ℕ) (a b : ℕ) → IsFirstUnformed known text a → IsFirstUnformed known text b → a < b → ⊥
unformed_upto known text a b h k less = h.here (formed_less known 0 (suc a) b (lines_of text) (omega (arith, less)) k.before)

pub formed_all : (known : Known) (text : List ℕ) (count : ℕ) → AreFormed known 0 (lines_of text) → IsFirstUnformed known text count → ⊥
formed_all known text count all h = h.here (formed_take known 0 (suc count) (lines_of text) all)

agrees_less : (plan : Plan) (text : List ℕ) (few many : ℕ) → few ≤ many → AgreesFor plan text many → AgreesFor plan text few
agrees_less plan text few many le (ticks, end, legal, same) =
    let split : many ≡ few + (many - few) = omega (arith, le) in (
      ticks,
      end,
      legal,
      take_less few (many - few) (ticks_lines plan 0 ticks) (lines_of text) (subst (λ (n : ℕ). take n (ticks_lines plan 0 ticks) ≡ take n (lines_of text)) split same),
    )

illegal_upto : (plan : Plan) (text : List ℕ) (a b : ℕ) → IsFirstIllegal plan text a → IsFirstIllegal plan text b → a < b → ⊥
illegal_upto plan text a b h k less = h.here (agrees_less plan text (suc a) b (omega (arith, less)) k.before)

-- where neither may be less, both are one
same_place : (a b : ℕ) → (a < b → ⊥) → (b < a → ⊥) → a ≡ b
same_place a b less more = by (cases_lt a b) (cases_lt b a)
  where
    by : (a < b) ⊎ (b ≤ a) → (b < a) ⊎ (a ≤ b) → a ≡ b
    by (inl h) other = absurd (less h)
    by (inr h) (inl k) = absurd (more k)
    by (inr h) (inr k) = omega (arith, h, k)

-- ---- verdicts

refused_form : (plan : Plan) (text : List ℕ) (count line why : ℕ) → IsRefusal plan text line why → IsFirstUnformed (known_of plan) text count → No line why ≡ No (suc count) 2
refused_form plan text count line why (some, inl (is, first)) unformed =
    let place = same_place (line - 1) count (unformed_upto (known_of plan) text (line - 1) count first unformed) (unformed_upto (known_of plan) text count (line - 1) unformed first) in
    let number : line ≡ suc count = omega (arith, some, place) in
    ap (λ (n : ℕ). No n why) number ∙ ap (λ (n : ℕ). No (suc count) n) is
refused_form plan text count line why (some, inr (is, formed, first)) unformed = absurd (formed_all (known_of plan) text count formed unformed)

refused_run : (plan : Plan) (text : List ℕ) (count line why : ℕ) → IsRefusal plan text line why → AreFormed (known_of plan) 0 (lines_of text) → IsFirstIllegal plan text count
    → No line why ≡ No (suc count) 3
refused_run plan text count line why (some, inl (is, first)) formed illegal = absurd (formed_all (known_of plan) text (line - 1) formed first)
refused_run plan text count line why (some, inr (is, all, first)) formed illegal =
    let place = same_place (line - 1) count (illegal_upto plan text (line - 1) count first illegal) (illegal_upto plan text count (line - 1) illegal first) in
    let number : line ≡ suc count = omega (arith, some, place) in
    ap (λ (n : ℕ). No n why) number ∙ ap (λ (n : ℕ). No (suc count) n) is

pub form_refused : (plan : Plan) (text : List ℕ) (verdict : Verdict) (count : ℕ)
    → ((ticks : List Tick) (end : WorldState) → IsJournalOf plan text ticks end → AreFormed (known_of plan) 0 (lines_of text))
    → IsVerdict plan text verdict → (RefusesBehind 2 verdict count ↔ IsFirstUnformed (known_of plan) text count)
form_refused plan text verdict count formed h = (out, back verdict h)
  where
    by : IsRefusal plan text (suc count) 2 → IsFirstUnformed (known_of plan) text count
    by (some, inl (is, first)) = let same : suc count - 1 ≡ count = omega arith in subst (IsFirstUnformed (known_of plan) text) same first
    by (some, inr (is, all, first)) = absurd (omega (arith, is))

    out : verdict ≡ No (suc count) 2 → IsFirstUnformed (known_of plan) text count
    out e = by (subst (IsVerdict plan text) e h).0

    back : (v : Verdict) → IsVerdict plan text v → IsFirstUnformed (known_of plan) text count → v ≡ No (suc count) 2
    back (Legal run) k unformed = absurd (formed_all (known_of plan) text count (formed run.journal.ticks run.world k.0) unformed)
    back (No line why) k unformed = refused_form plan text count line why k.0 unformed

pub run_refused : (plan : Plan) (laws : ReplayLaws plan) (text : List ℕ) (verdict : Verdict) (count : ℕ) → IsVerdict plan text verdict
    → (RefusesBehind 3 verdict count ↔ (AreFormed (known_of plan) 0 (lines_of text) × IsFirstIllegal plan text count))
run_refused plan laws text verdict count h = (out, λ both. back verdict h both.0 both.1)
  where
    by : IsRefusal plan text (suc count) 3 → AreFormed (known_of plan) 0 (lines_of text) × IsFirstIllegal plan text count
    by (some, inl (is, first)) = absurd (omega (arith, is))
    by (some, inr (is, all, first)) = let same : suc count - 1 ≡ count = omega arith in (all, subst (IsFirstIllegal plan text) same first)

    out : verdict ≡ No (suc count) 3 → AreFormed (known_of plan) 0 (lines_of text) × IsFirstIllegal plan text count
    out e = by (subst (IsVerdict plan text) e h).0

    back : (v : Verdict) → IsVerdict plan text v → AreFormed (known_of plan) 0 (lines_of text) → IsFirstIllegal plan text count → v ≡ No (suc count) 3
    back (Legal run) k formed illegal = absurd (none_is plan laws text count illegal run.journal.ticks run.world k.0)
    back (No line why) k formed illegal = refused_run plan text count line why k.0 formed illegal
