-- One turn at a lock's table, piece by piece: what a seat knows and holds before and after each.
use Rattle.std.specs.Prelude.{◌≡◌, ℕ, ◌%◌, ◌^◌, [], ◌∷◌, ◌++◌, Result, IfOk, OnErr}
use Rattle.atomic_table.specs.Seated.{TableId}
use Rattle.turn_lock.specs.declared.{board.Kept.Kept, board.Known.Known, board.View.TheVariants.Living}
use Rattle.turn_lock.specs.declared.board.Stage.TheVariants.{Idle, Waits, Holds}
use Rattle.turn_lock.specs.{History.Log, Calls.HasCalled, Calls.HasLooked, Steps.Seated, Steps.at_stage, Steps.having_seen, Steps.Took, Steps.Goes_on}

-- a lock's table has two words and one slot
abbrev pub IsBoard : TableId → Type 0
IsBoard table = (table.words ≡ 2) × (table.slots ≡ 1)

module _ {S Ask Answer : Type 0} where
  -- the seat is living, at rest, and holds nothing
  abbrev pub Rests : Seated S Ask Answer → Type 0
  Rests me = (known : Known S Ask Answer) × (me ≡ (Living known, [])) × (known.stage ≡ Idle)

  -- the seat waits with the ticket of this remainder
  abbrev pub Awaits : Seated S Ask Answer → ℕ → Type 0
  Awaits me ticket = (known : Known S Ask Answer) × (t : ℕ) × (me ≡ (Living known, [])) × (known.stage ≡ Waits t) × (ticket ≡ t % 2 ^ 64)

  -- a ticket was drawn by the seat
  abbrev pub Draws : Seated S Ask Answer → ℕ → Seated S Ask Answer → Type 0
  Draws before ticket after = (known : Known S Ask Answer) → before ≡ (Living known, []) → (t : ℕ) × (ticket ≡ t % 2 ^ 64) × (after ≡ (Living (at_stage known (Waits t)), []))

  -- the slot's value, and what a step of it leaves
  abbrev pub Makes : (S → Ask → Answer × S) → ℕ → Ask → Kept S Ask Answer → {E : Type 0} → Result Answer E → Kept S Ask Answer → Type 0
  Makes does number ask before result after =
      IfOk result (λ answer. (after.history.items ≡ before.history.items ++ (number, ask, answer) ∷ []) × (does before.state ask ≡ (answer, after.state)))
      × OnErr result ((after.history.items ≡ before.history.items) × (after.state ≡ before.state))

  -- the seat holds the slot, with this value
  abbrev pub Lends : Seated S Ask Answer → Kept S Ask Answer → Type 0
  Lends me kept = me.1 ≡ (0, kept) ∷ []

  module _ (does : S → Ask → Answer × S) where
    -- the seat has got its turn
    abbrev pub Takes : Seated S Ask Answer → Seated S Ask Answer → Type 0
    Takes before after = (known : Known S Ask Answer) (t : ℕ) → before ≡ (Living known, []) → known.stage ≡ Waits t → Took does known t after

    -- the seat may give its turn on
    abbrev pub IsReady : Seated S Ask Answer → Type 0
    IsReady me = (known : Known S Ask Answer) × (t : ℕ) × (kept : Kept S Ask Answer) × (me ≡ (Living known, (0, kept) ∷ [])) × (known.stage ≡ Holds t) × Goes_on does known kept

    -- one whole turn of a seat at rest: it is at rest again, and has called or looked
    abbrev pub Turns : ℕ → Ask → Seated S Ask Answer → {E : Type 0} → Result Answer E → Seated S Ask Answer → Type 0
    Turns number ask before result after = (known : Known S Ask Answer) → before ≡ (Living known, []) → known.stage ≡ Idle → known.number ≡ number
        → (seen : Log Ask Answer) × (after ≡ (Living (having_seen known seen), []))
        × IfOk result (λ answer. HasCalled does known.start number known.seen ask answer seen)
        × OnErr result (HasLooked does known.start number known.seen seen)

  -- the turn is given on
  abbrev pub GivesOn : Seated S Ask Answer → Seated S Ask Answer → Type 0
  GivesOn before after = (known : Known S Ask Answer) (kept : Kept S Ask Answer) → before ≡ (Living known, (0, kept) ∷ [])
      → after ≡ (Living (having_seen (at_stage known Idle) kept.history.items), [])
