-- What is left of a lock once it is closed, or isn't.
use Rattle.std.specs.Prelude.{◌≡◌, ◌==◌, ◌⊎◌, ℕ, ◌<◌, ◌≤◌, true, List, [], ◌++◌, map, All}
use Rattle.std.specs.List.{list_any}
use Rattle.turn_lock.specs.declared.{board.Known.Known, board.Stage.TheVariants.Idle, board.View.TheVariants.Living}
use Rattle.turn_lock.specs.{History.Log, History.calls_of, History.BeginsWith, History.last_state, History.IsHistory, Steps.Seated, Passes.Lock, Passes.PassOf, Passes.is_given}

module _ {Ask Answer : Type 0} where
  -- the history begins with what a pass has seen, and its entries of that pass's number are exactly
  -- the pass's calls
  abbrev pub HasCallsOf : Log Ask Answer → ℕ → Log Ask Answer → Type 0
  HasCallsOf history number seen = BeginsWith history seen × (calls_of number history ≡ calls_of number seen)

module _ {S Ask Answer : Type 0} (does : S → Ask → Answer × S) where
  -- a closed lock: a history from the state that it began with, and the state that it leaves
  pub record HasClosed (lock : Lock S) (passes : List (PassOf S Ask Answer)) (state : S) (history : Log Ask Answer) : Type 0 where
    pub legal : IsHistory does lock.start history
    pub last : state ≡ last_state does lock.start history
    pub calls : All (λ (p : PassOf S Ask Answer). HasCallsOf history p.number p.seen) passes
    -- no entry has a number that isn't a pass's of the lock
    pub no_others : (number : ℕ) → (1 ≤ number → lock.passes < number) → calls_of number history ≡ []
    -- each pass of the lock was given
    pub given : (number : ℕ) → 1 ≤ number → number ≤ lock.passes → is_given passes number ≡ true

  -- the same by what the last seat knows
  pub record HasEndedAll (start : S) (passes : ℕ) (known : Known S Ask Answer) (state : S) (history : Log Ask Answer) : Type 0 where
    pub legal : IsHistory does start history
    pub last : state ≡ last_state does start history
    pub own : HasCallsOf history known.number known.seen
    pub others : All (λ (p : ℕ × Log Ask Answer). HasCallsOf history p.0 p.1) known.ended
    pub no_others : (number : ℕ) → (1 ≤ number → passes < number) → calls_of number history ≡ []

module _ {S Ask Answer : Type 0} where
  -- what is kept of a pass that is taken in
  abbrev pub ended_of : PassOf S Ask Answer → ℕ × Log Ask Answer
  ended_of pass = (pass.number, pass.seen)

  -- what is known once these were taken in
  abbrev pub having_ended : Known S Ask Answer → List (ℕ × Log Ask Answer) → Known S Ask Answer
  having_ended known taken = record { start = known.start; passes = known.passes; number = known.number; dealt = known.dealt; stage = known.stage; seen = known.seen; ended = taken ++ known.ended }

  -- the seat is living and holds nothing
  abbrev pub IsFree : Seated S Ask Answer → Type 0
  IsFree me = (known : Known S Ask Answer) × (me ≡ (Living known, []))

  -- the passes of a list were taken in, but those that are left
  abbrev pub TakesIn : Seated S Ask Answer → List (PassOf S Ask Answer) → List (PassOf S Ask Answer) → Seated S Ask Answer → Type 0
  TakesIn before all left after = (known : Known S Ask Answer) → before ≡ (Living known, [])
      → (taken : List (ℕ × Log Ask Answer)) × (after ≡ (Living (having_ended known taken), [])) × (map ended_of left ++ taken ≡ map ended_of all)

  -- the seat is the last: all others were taken in
  abbrev pub IsLast : Seated S Ask Answer → ℕ → Type 0
  IsLast me passes = (known : Known S Ask Answer) × (me ≡ (Living known, [])) × (known.stage ≡ Idle)
      × ((number : ℕ) → 1 ≤ number → number ≤ passes → (known.number ≡ number) ⊎ (list_any (λ (p : ℕ × Log Ask Answer). p.0 == number) known.ended ≡ true))
