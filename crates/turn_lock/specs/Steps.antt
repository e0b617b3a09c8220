-- What each step on a lock's table tells the pass that makes it, and how a seat is cut in two or
-- taken in.
use Rattle.std.specs.Prelude.{◌≡◌, ◌≢◌, ℕ, ◌+◌, ◌%◌, ◌^◌, true, false, [], ◌∷◌, ◌++◌}
use Rattle.atomic_table.specs.Table.{Me, Step}
use Rattle.turn_lock.specs.declared.{board.Kept.Kept, board.Known.Known, board.Stage.Stage, board.View.View, board.View.TheVariants.Spent, board.View.TheVariants.Living}
use Rattle.turn_lock.specs.declared.board.Stage.TheVariants.{Idle, Waits, Holds}
use Rattle.turn_lock.specs.History.{Log, calls_of, BeginsWith, last_state, IsHistory}

-- a seat: its view, and the slots that it has taken
abbrev pub Seated : Type 0 → Type 0 → Type 0 → Type 0
Seated S Ask Answer = Me (Kept S Ask Answer) (View S Ask Answer)

module _ {S Ask Answer : Type 0} where
  -- the fact holds of what a living seat knows
  abbrev pub OnLiving : View S Ask Answer → (Known S Ask Answer → Type 0) → Type 0
  OnLiving Spent Fact = Unit {0}
  OnLiving (Living known) Fact = Fact known

  -- what is known, at another stage
  abbrev pub at_stage : Known S Ask Answer → Stage → Known S Ask Answer
  at_stage known stage = record { start = known.start; passes = known.passes; number = known.number; dealt = known.dealt; stage = stage; seen = known.seen; ended = known.ended }

  -- what is known once this history has been seen
  abbrev pub having_seen : Known S Ask Answer → Log Ask Answer → Known S Ask Answer
  having_seen known history = record { start = known.start; passes = known.passes; number = known.number; dealt = known.dealt; stage = known.stage; seen = history; ended = known.ended }

  -- a ticket was drawn, whose remainder was found in the word
  abbrev pub drew : Step (Kept S Ask Answer) → Seated S Ask Answer → ℕ → Seated S Ask Answer → Type 0
  drew step before found after = OnLiving before.0 (λ known. (t : ℕ) × (found ≡ t % 2 ^ 64) × (after ≡ (Living (at_stage known (Waits t)), before.1)))

  module _ (does : S → Ask → Answer × S) where
    -- the value of the slot stands for its history
    abbrev pub Stands : S → Kept S Ask Answer → Type 0
    Stands start kept = (kept.state ≡ last_state does start kept.history.items) × IsHistory does start kept.history.items

    -- the slot was taken with the ticket t: the seat has now seen the whole history, in which it
    -- has the calls that it knew of
    pub record Took (known : Known S Ask Answer) (t : ℕ) (after : Seated S Ask Answer) : Type 0 where
      pub kept : Kept S Ask Answer
      pub now : after ≡ (Living (having_seen (at_stage known (Holds t)) kept.history.items), (0, kept) ∷ [])
      pub stands : Stands known.start kept
      pub front : BeginsWith kept.history.items known.seen
      pub own : calls_of known.number kept.history.items ≡ calls_of known.number known.seen

    -- the served ticket was read: where it is the seat's own the slot was taken, and else nothing
    -- changed
    abbrev pub looked : Step (Kept S Ask Answer) → Seated S Ask Answer → ℕ → Seated S Ask Answer → Type 0
    looked step before found after = OnLiving before.0 (λ known. (t : ℕ) → known.stage ≡ Waits t → before.1 ≡ []
        → (found ≡ t % 2 ^ 64 → Took known t after) × (found ≢ t % 2 ^ 64 → after ≡ before))

    -- the slot has what was seen, and more calls of this pass alone
    pub record Goes_on (known : Known S Ask Answer) (kept : Kept S Ask Answer) : Type 0 where
      pub added : Log Ask Answer
      pub history_is : kept.history.items ≡ known.seen ++ added
      pub mine : (number : ℕ) → number ≢ known.number → calls_of number added ≡ []
      pub stands : Stands known.start kept

  -- the slot was given back, and the next ticket is served
  abbrev pub advanced : Step (Kept S Ask Answer) → Seated S Ask Answer → ℕ → Seated S Ask Answer → Type 0
  advanced step before found after = OnLiving before.0 (λ known. (kept : Kept S Ask Answer) → before.1 ≡ (0, kept) ∷ []
      → after ≡ (Living (having_seen (at_stage known Idle) kept.history.items), []))

  -- the seat that has dealt the next pass
  abbrev pub dealer : View S Ask Answer → View S Ask Answer
  dealer Spent = Spent
  dealer (Living known) = Living (record { start = known.start; passes = known.passes; number = known.number; dealt = true; stage = known.stage; seen = known.seen; ended = known.ended })

  -- the next pass's seat, which has seen nothing
  abbrev pub next_view : View S Ask Answer → View S Ask Answer
  next_view Spent = Spent
  next_view (Living known) = Living (record { start = known.start; passes = known.passes; number = known.number + 1; dealt = false; stage = Idle; seen = []; ended = [] })

  -- the seat that has taken in another
  abbrev pub taker : View S Ask Answer → View S Ask Answer → View S Ask Answer
  taker (Living known) (Living other) = Living (record { start = known.start; passes = known.passes; number = known.number; dealt = known.dealt; stage = known.stage; seen = known.seen; ended = (other.number, other.seen) ∷ known.ended })
  taker view other = view
