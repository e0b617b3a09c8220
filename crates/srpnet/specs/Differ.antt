-- The first line in which two texts differ.
use Rattle.std.specs.Prelude.{◌≡◌, ◌≢◌, ◌==◌, if◌then◌else◌, ℕ, suc, List, [], ◌∷◌, take}
use Rattle.journal_audit.specs.Texts.{lines_of}

-- the texts have so many first lines in common, and not one more
pub record IsFirstDifferent (one other : List ℕ) (count : ℕ) : Type 0 where
  pub before : take count (lines_of one) ≡ take count (lines_of other)
  pub here : take (suc count) (lines_of one) ≢ take (suc count) (lines_of other)

-- how many lines end in a text
abbrev pub line_feeds : List ℕ → ℕ
line_feeds [] = 0
line_feeds (c ∷ text) = if c == 10 then suc (line_feeds text) else line_feeds text

-- two texts differ at their first octet, or one of them has none
abbrev pub DifferAtOnce : List ℕ → List ℕ → Type 0
DifferAtOnce [] other = Unit {0}
DifferAtOnce (c ∷ one) [] = Unit {0}
DifferAtOnce (c ∷ one) (d ∷ other) = c ≢ d
