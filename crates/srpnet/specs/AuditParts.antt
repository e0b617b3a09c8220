-- The parts of what is audited: a scenario, the line `=== output`, and what was printed of a run of
-- it, with its journal.
use Rattle.std.specs.Prelude.{◌≡◌, ◌⊎◌, ℕ, ◌+◌, nat_eq, ◌||◌, if◌then◌else◌, Bool, false, List, [], ◌∷◌, ◌++◌, codes, length, Option, Some, None, option_map}
use Rattle.std.specs.{List.AllByRecursion, Cmp.Lexicographic.pointwise}
use Rattle.srp_base.specs.Text.{whole_of}
use Rattle.journal_audit.specs.Texts.{lines_of}

-- a line is this word; the last line of a text may lack its line feed
abbrev pub is_line : List ℕ → List ℕ → Bool
is_line word line = pointwise nat_eq line (word ++ codes "\n") || pointwise nat_eq line word

-- the lines before the first one that is a word, behind so many that aren't, and the lines behind
-- it
abbrev pub parted_from : List ℕ → List (List ℕ) → List (List ℕ) → Option (List (List ℕ) × List (List ℕ))
parted_from word before [] = None
parted_from word before (line ∷ lines) =
    if is_line word line then Some (before, lines) else parted_from word (before ++ line ∷ []) lines

-- what stands before the first line of a text that is a word, how many lines these are, and what
-- stands behind it
pub record PartedText : Type 0 where
  pub before : List ℕ
  pub lines : ℕ
  pub behind : List ℕ

abbrev pub as_text : Option (List (List ℕ) × List (List ℕ)) → Option PartedText
as_text None = None
as_text (Some parts) = Some (record { before = whole_of parts.0; lines = length parts.0; behind = whole_of parts.1 })

abbrev pub parted_at : List ℕ → List ℕ → Option PartedText
parted_at word text = as_text (parted_from word [] (lines_of text))

-- What is audited: a scenario, and a report and a journal of a run of it. In the input the cut has
-- this number, counted from 1, and behind it the line `journal` has this.
pub record AuditParts : Type 0 where
  pub scenario : List ℕ
  pub cut : ℕ
  pub report : List ℕ
  pub marked : ℕ
  pub journal : List ℕ

-- the parts of what stands behind the cut, by the first line `journal` in it
abbrev pub with_scenario : PartedText → Option PartedText → Option AuditParts
with_scenario cut None = None
with_scenario cut (Some parts) =
    Some (record { scenario = cut.before; cut = cut.lines + 1; report = parts.before; marked = parts.lines + 1; journal = parts.behind })

-- the parts by the cut, the first line `=== output`
abbrev pub by_cut : Option PartedText → Option AuditParts
by_cut None = None
by_cut (Some parts) = with_scenario parts (parted_at (codes "journal") parts.behind)

-- the parts of the octets of an input
abbrev pub audit_parts : List ℕ → Option AuditParts
audit_parts octets = by_cut (parted_at (codes "=== output") octets)

-- what stands behind the cut, if there is one
abbrev pub behind_cut : List ℕ → Option (List ℕ)
behind_cut octets = option_map (λ p. p.behind) (parted_at (codes "=== output") octets)

-- ---- what is put together of parts

-- the last octet of a text, where it has one, is a line feed
abbrev pub EndsItsLines : List ℕ → Type 0
EndsItsLines [] = Unit {0}
EndsItsLines (c ∷ []) = c ≡ 10
EndsItsLines (c ∷ d ∷ text) = EndsItsLines (d ∷ text)

-- no line of a text is this word
abbrev pub LacksLine : List ℕ → List ℕ → Type 0
LacksLine word text = AllByRecursion (λ line. is_line word line ≡ false) (lines_of text)

-- a scenario, the cut, a report, the line `journal`, and a journal
abbrev pub put_together : List ℕ → List ℕ → List ℕ → List ℕ
put_together scenario report journal = scenario ++ (codes "=== output\n" ++ (report ++ (codes "journal\n" ++ journal)))

-- ---- what has no parts

-- the octets of an input have their cut, and no line `journal` behind it
pub record LacksMark (octets : List ℕ) : Type 0 where
  pub cut : PartedText
  pub is : parted_at (codes "=== output") octets ≡ Some cut
  pub none : LacksLine (codes "journal") cut.behind

-- they have no cut, or no line `journal` behind it
abbrev pub LacksPart : List ℕ → Type 0
LacksPart octets = LacksLine (codes "=== output") octets ⊎ LacksMark octets
