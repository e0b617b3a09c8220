-- A text that is read line by line, and what may be read of it.
use Rattle.std.specs.Prelude.{◌≡◌, ◌≢◌, ℕ, suc, ◌+◌, Bool, true, false, List, ◌∷◌, ◌++◌, length, take, slice_get, Option, Some}
use Rattle.journal_audit.specs.Texts.{lines_of}

-- what is left of a text, how many of its lines have been read, and the line that was last asked for
-- and isn't there
pub record Reading : Type 0 where
  pub rest : List ℕ
  pub read : ℕ
  pub wanted : Option (List ℕ)

-- a line was asked for that isn't there, or none where nothing may follow
abbrev pub asking_for : Option (List ℕ) → Reading → Reading
asking_for wanted r = record { rest = r.rest; read = r.read; wanted = wanted }

-- a line has been read
pub record IsTaken (line : List ℕ) (from to : Reading) : Type 0 where
  pub lines : lines_of from.rest ≡ line ∷ lines_of to.rest
  pub read : to.read ≡ from.read + 1

-- of the lists of lines that may follow one has the first so many lines of a text
abbrev pub Agrees : (List (List ℕ) → Type 0) → List (List ℕ) → ℕ → Type 0
Agrees MayFollow lines count = (follow : List (List ℕ)) × MayFollow follow × (take count follow ≡ take count lines)

-- of the lists that may follow one has the first so many lines of a text, and behind them this line,
-- or it ends there
abbrev pub GoesOn : (List (List ℕ) → Type 0) → List (List ℕ) → ℕ → Option (List ℕ) → Type 0
GoesOn MayFollow lines count wanted =
    (follow : List (List ℕ)) × MayFollow follow × (take count follow ≡ take count lines) × (slice_get follow count ≡ wanted)

-- so many lines are read in all, and of the lists that may follow none has one more; the line that
-- was asked for is one that may follow there
pub record IsStuck (MayFollow : List (List ℕ) → Type 0) (from to : Reading) : Type 0 where
  pub count : ℕ
  pub reached : to.read ≡ from.read + count
  pub before : GoesOn MayFollow (lines_of from.rest) count to.wanted
  pub here : Agrees MayFollow (lines_of from.rest) (suc count) → ⊥

-- These lines have been read. Whatever may follow then, may follow behind them; and where a list
-- that may follow at first begins with them, what stands behind them may follow then.
pub record HasRead (MayFollow : List (List ℕ) → Type 0) (from : Reading) (front : List (List ℕ)) (MayThen : List (List ℕ) → Type 0) (to : Reading) : Type 0 where
  pub lines : lines_of from.rest ≡ front ++ lines_of to.rest
  pub read : to.read ≡ from.read + length front
  pub onto : (follow : List (List ℕ)) → MayThen follow → MayFollow (front ++ follow)
  pub back : (follow : List (List ℕ)) → MayFollow (front ++ follow) → MayThen follow

-- a line has been read, or it isn't the next and nothing has been read; then it was asked for
pub record TakesOrStays (line : List ℕ) (from to : Reading) (taken : Bool) : Type 0 where
  pub takes : taken ≡ true → IsTaken line from to
  pub stays : taken ≡ false → to ≡ asking_for (Some line) from
  pub other : taken ≡ false → (lines : List (List ℕ)) → lines_of from.rest ≢ line ∷ lines

-- these lines have been read
pub record AreTaken (lines : List (List ℕ)) (from to : Reading) : Type 0 where
  pub lines_are : lines_of from.rest ≡ lines ++ lines_of to.rest
  pub read : to.read ≡ from.read + length lines
