-- What is put together of parts is parted into them, and what has no parts lacks a line.
use Rattle.std.proofs.Common.{◌≡◌, ℕ, ◌+◌, true, false, List, [], ◌∷◌, ◌++◌, length, refl, sym, ap, ◌∙◌, inl, inr, eqb, Option, Some, None, append_assoc, append-nil}
use Rattle.std.specs.Prelude.{◌↔◌, Bool, codes, if◌then◌else◌}
use Rattle.std.specs.List.{AllByRecursion}
use Rattle.std.proofs.lemmas.Bool.{cases_Bool}
use Rattle.srp_base.specs.Text.{whole_of}
use Rattle.journal_audit.specs.Texts.{lines_of, with_octet}
use Rattle.journal_audit.proofs.TextLemmas.{lines_join}
use Rattle.srpnet.specs.{is_line, parted_from, as_text, parted_at, PartedText, with_scenario, by_cut, audit_parts, EndsItsLines, LacksLine, put_together, LacksPart}
use Rattle.srpnet.specs.AuditParts.{AuditParts}

-- ---- lines of texts one behind the other

-- a text with an octet has a line
abbrev HasLine : List (List ℕ) → Type 0
HasLine [] = ⊥
HasLine (line ∷ lines) = Unit {0}

with_line : (c : ℕ) (lines : List (List ℕ)) → HasLine (with_octet c lines)
with_line c [] = tt
with_line c (line ∷ lines) = tt

some_line : (c : ℕ) (text : List ℕ) → HasLine (lines_of (c ∷ text))
some_line c text = elim (cases_Bool (eqb c 10)) [
  | inl is ↦ rw is tt
  | inr differs ↦ rw differs (with_line c (lines_of text))
]

with_append : (c : ℕ) (lines more : List (List ℕ)) → HasLine lines → with_octet c (lines ++ more) ≡ with_octet c lines ++ more
with_append c [] more has = absurd has
with_append c (line ∷ lines) more has = refl

pub lines_append : (text more : List ℕ) → EndsItsLines text → lines_of (text ++ more) ≡ lines_of text ++ lines_of more
lines_append [] more ends = refl
lines_append (c ∷ []) more ends = rw ends refl
lines_append (c ∷ d ∷ text) more ends =
    let later : lines_of ((d ∷ text) ++ more) ≡ lines_of (d ∷ text) ++ lines_of more = lines_append (d ∷ text) more ends in
    elim (cases_Bool (eqb c 10)) [
      | inl is ↦ rw is (ap (λ (ls : List (List ℕ)). (10 ∷ []) ∷ ls) later)
      | inr differs ↦ rw differs (ap (with_octet c) later ∙ with_append c (lines_of (d ∷ text)) (lines_of more) (some_line d text))
    ]

-- ---- the first line that is a word

found_behind : (word : List ℕ) (before lines : List (List ℕ)) (line : List ℕ) (behind : List (List ℕ)) → AllByRecursion (λ l. is_line word l ≡ false) lines → is_line word line ≡ true
    → parted_from word before (lines ++ line ∷ behind) ≡ Some (before ++ lines, behind)
found_behind word before [] line behind none is = rw is (ap (λ (ls : List (List ℕ)). Some (ls, behind)) (sym (append-nil before)))
found_behind word before (l ∷ lines) line behind none is =
    let later : parted_from word (before ++ l ∷ []) (lines ++ line ∷ behind) ≡ Some ((before ++ l ∷ []) ++ lines, behind) = found_behind word (before ++ l ∷ []) lines line behind none.1 is in
    let first : is_line word l ≡ false = none.0 in
    rw first (later ∙ ap (λ (ls : List (List ℕ)). Some (ls, behind)) (append_assoc before (l ∷ []) lines))

pub parted_behind : (word text line rest : List ℕ) → lines_of (line ++ rest) ≡ line ∷ lines_of rest → is_line word line ≡ true → EndsItsLines text → LacksLine word text
    → ◌≡◌ {A = Option PartedText} (parted_at word (text ++ (line ++ rest))) (Some (record { before = text; lines = length (lines_of text); behind = rest }))
parted_behind word text line rest one is ends lacks =
    let lines : lines_of (text ++ (line ++ rest)) ≡ lines_of text ++ line ∷ lines_of rest = lines_append text (line ++ rest) ends ∙ ap (λ (ls : List (List ℕ)). lines_of text ++ ls) one in
    ap as_text (ap (parted_from word []) lines ∙ found_behind word [] (lines_of text) line (lines_of rest) lacks is)
    ∙ both (whole_of (lines_of text)) text (whole_of (lines_of rest)) rest (lines_join text) (lines_join rest)
  where
    both : (a a' b b' : List ℕ) → a ≡ a' → b ≡ b'
        → ◌≡◌ {A = Option PartedText} (Some (record { before = a; lines = length (lines_of text); behind = b })) (Some (record { before = a'; lines = length (lines_of text); behind = b' }))
    both a a' b b' p q = rw (p, q) refl

-- ---- both lines

pub parted_again : (scenario report journal : List ℕ) → EndsItsLines scenario → EndsItsLines report → LacksLine (codes "=== output") scenario → LacksLine (codes "journal") report
    → ◌≡◌ {A = Option AuditParts} (audit_parts (put_together scenario report journal))
    (Some (record { scenario = scenario; cut = length (lines_of scenario) + 1; report = report; marked = length (lines_of report) + 1; journal = journal }))
parted_again scenario report journal scenario_ends report_ends no_cut no_mark =
    let behind : List ℕ = report ++ (codes "journal\n" ++ journal) in
    let cut : PartedText = record { before = scenario; lines = length (lines_of scenario); behind = behind } in
    ap by_cut (parted_behind (codes "=== output") scenario (codes "=== output\n") behind refl refl scenario_ends no_cut)
    ∙ ap (with_scenario cut) (parted_behind (codes "journal") report (codes "journal\n") journal refl refl report_ends no_mark)

-- ---- a text without the line

none_from : (word : List ℕ) (before lines : List (List ℕ)) → AllByRecursion (λ l. is_line word l ≡ false) lines → parted_from word before lines ≡ None
none_from word before [] none = refl
none_from word before (l ∷ lines) none = let first : is_line word l ≡ false = none.0 in rw first (none_from word (before ++ l ∷ []) lines none.1)

from_none : (word : List ℕ) (before lines : List (List ℕ)) → parted_from word before lines ≡ None → AllByRecursion (λ l. is_line word l ≡ false) lines
from_none word before [] none = tt
from_none word before (l ∷ lines) none = by (is_line word l) none (λ later. from_none word (before ++ l ∷ []) lines later)
  where
    found : ◌≡◌ {A = Option (List (List ℕ) × List (List ℕ))} (Some (before, lines)) None → ⊥
    found some = cc

    by : (is : Bool) → ◌≡◌ {A = Option (List (List ℕ) × List (List ℕ))} (if is then Some (before, lines) else parted_from word (before ++ l ∷ []) lines) None
        → (parted_from word (before ++ l ∷ []) lines ≡ None → AllByRecursion (λ k. is_line word k ≡ false) lines)
        → (is ≡ false) × AllByRecursion (λ k. is_line word k ≡ false) lines
    by true some rest = absurd (found some)
    by false later rest = (refl, rest later)

as_none : (o : Option (List (List ℕ) × List (List ℕ))) → as_text o ≡ None → o ≡ None
as_none None none = refl
as_none (Some parts) none = cc

line_lacks : (word text : List ℕ) → LacksLine word text → parted_at word text ≡ None
line_lacks word text lacks = ap as_text (none_from word [] (lines_of text) lacks)

lacks_line : (word text : List ℕ) → parted_at word text ≡ None → LacksLine word text
lacks_line word text none = from_none word [] (lines_of text) (as_none (parted_from word [] (lines_of text)) none)

-- an input has no parts exactly where one of the lines is missing that part them
pub no_parts : (octets : List ℕ) → (audit_parts octets ≡ None ↔ LacksPart octets)
no_parts octets = (out (parted_at (codes "=== output") octets) refl, back)
  where
    no_mark : (cut : PartedText) (o : Option PartedText) → with_scenario cut o ≡ None → o ≡ None
    no_mark cut None none = refl
    no_mark cut (Some parts) none = cc

    out : (o : Option PartedText) → parted_at (codes "=== output") octets ≡ o → by_cut o ≡ None → LacksPart octets
    out None is none = inl (lacks_line (codes "=== output") octets is)
    out (Some cut) is none =
        inr (record { cut = cut; is = is; none = lacks_line (codes "journal") cut.behind (no_mark cut (parted_at (codes "journal") cut.behind) none) })

    back : LacksPart octets → audit_parts octets ≡ None
    back (inl lacks) = ap by_cut (line_lacks (codes "=== output") octets lacks)
    back (inr lacks) = ap by_cut lacks.is ∙ ap (with_scenario lacks.cut) (line_lacks (codes "journal") lacks.cut.behind lacks.none)
