-- What contracts see of a lock and of its passes.
use Rattle.std.specs.Prelude.{◌≡◌, ◌==◌, ℕ, zero, suc, ◌+◌, ◌<◌, ◌≤◌, Bool, true, false, List, [], ◌∷◌, ◌++◌}
use Rattle.std.specs.List.{list_any}
use Rattle.atomic_table.specs.Seated.{TableId}
use Rattle.turn_lock.specs.declared.{board.Known.Known, board.Stage.TheVariants.Idle, board.View.View, board.View.TheVariants.Spent, board.View.TheVariants.Living}
use Rattle.turn_lock.specs.{History.Log, Steps.Seated}

-- a lock: what tells it from all others, the state that it began with, and its number of passes
pub record Lock (S : Type 0) : Type 0 where
  pub table : TableId
  pub start : S
  pub passes : ℕ

-- a pass: its lock, its number, and the history as far as it has seen it
pub record PassOf (S Ask Answer : Type 0) : Type 0 where
  pub lock : Lock S
  pub number : ℕ
  pub seen : Log Ask Answer

module _ {S Ask Answer : Type 0} where
  -- the first passes of a lock, numbered from 1, none of which has seen anything
  abbrev pub first_passes : Lock S → ℕ → List (PassOf S Ask Answer)
  first_passes lock zero = []
  first_passes lock (suc count) = first_passes lock count ++ record { lock = lock; number = count + 1; seen = [] } ∷ []

  -- whether a pass of the list has a number
  abbrev pub is_given : List (PassOf S Ask Answer) → ℕ → Bool
  is_given passes number = list_any (λ (p : PassOf S Ask Answer). p.number == number) passes

  -- the lowest number, from 1 to this count, of which no pass is in the list
  pub record IsLowestMissing (count : ℕ) (passes : List (PassOf S Ask Answer)) (number : ℕ) : Type 0 where
    pub from_one : 1 ≤ number
    pub in_range : number ≤ count
    pub missing : is_given passes number ≡ false
    pub lowest : (lower : ℕ) → 1 ≤ lower → lower < number → is_given passes lower ≡ true

  -- what a seat has seen
  abbrev pub seen_by : View S Ask Answer → Log Ask Answer
  seen_by Spent = []
  seen_by (Living known) = known.seen

  -- what lies behind a pass: a living seat at rest, which holds nothing
  pub record IsPass (start : S) (passes number : ℕ) (me : Seated S Ask Answer) : Type 0 where
    pub known : Known S Ask Answer
    pub me_is : me ≡ (Living known, [])
    pub at_rest : known.stage ≡ Idle
    pub start_is : known.start ≡ start
    pub passes_are : known.passes ≡ passes
    pub number_is : known.number ≡ number
    pub none_ended : known.ended ≡ []
    pub in_range : (1 ≤ number) × (number ≤ passes)
