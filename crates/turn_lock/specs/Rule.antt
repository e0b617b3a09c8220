-- The rule of a lock's table: what its words, its slot and what its seats know have to do with one
-- another.
use Rattle.std.specs.Prelude.{◌≡◌, ℕ, ◌+◌, ◌%◌, ◌^◌, ◌<◌, ◌≤◌, Bool, true, false, List, [], ◌∷◌, length, All}
use mathlib.Core.Option.{Option, none, some}
use lib.ListN.{get_elem?}
use Rattle.atomic_table.specs.Table.{State}
use Rattle.turn_lock.specs.declared.{board.Kept.Kept, board.Known.Known, board.Stage.Stage, board.View.View, board.View.TheVariants.Spent, board.View.TheVariants.Living}
use Rattle.turn_lock.specs.declared.board.Stage.TheVariants.{Idle, Waits, Holds}
use Rattle.turn_lock.specs.History.{Log, calls_of, BeginsWith, last_state, IsHistory}

-- 1 for a stage with a ticket, 0 for the one without
abbrev pub tickets_at : Stage → ℕ
tickets_at Idle = 0
tickets_at (Waits t) = 1
tickets_at (Holds t) = 1

module _ {S Ask Answer : Type 0} where
  abbrev pub tickets_of : View S Ask Answer → ℕ
  tickets_of Spent = 0
  tickets_of (Living known) = tickets_at known.stage

  -- how many of the seats have a ticket
  abbrev pub ticket_count : List (View S Ask Answer) → ℕ
  ticket_count [] = 0
  ticket_count (view ∷ views) = tickets_of view + ticket_count views

  -- what the slot has at home
  abbrev pub at_home : Bool → Kept S Ask Answer → Option (Kept S Ask Answer)
  at_home true kept = none
  at_home false kept = some kept

  -- what a seat that was dealt just now knows: its number
  abbrev pub dealt_known : S → ℕ → ℕ → Known S Ask Answer
  dealt_known start passes number = record { start = start; passes = passes; number = number; dealt = false; stage = Idle; seen = []; ended = [] }

  -- what the first seat knows
  abbrev pub first_view : S → ℕ → View S Ask Answer
  first_view start passes = Living (dealt_known start passes 1)

-- what a seat's stage has to do with the tickets and the slot: the ticket that is served, the next
-- one to be drawn, whose seat each ticket is, whether the slot is out, and the history
module _ {Ask Answer : Type 0} (served drawn : ℕ) (owner : ℕ → ℕ) (out : Bool) (history : Log Ask Answer) where
  abbrev pub FitsStage : ℕ → Log Ask Answer → Stage → Type 0
  FitsStage seat seen Idle = Unit {0}
  FitsStage seat seen (Waits t) = (served ≤ t) × (t < drawn) × (owner t ≡ seat) × (t ≡ served → out ≡ false)
  FitsStage seat seen (Holds t) = (t ≡ served) × (t < drawn) × (owner t ≡ seat) × (out ≡ true) × (seen ≡ history)

-- what is known of a seat that another has taken in: its number with what it had seen
abbrev pub HasEnded : {S Ask Answer : Type 0} → Log Ask Answer → List (View S Ask Answer) → ℕ × Log Ask Answer → Type 0
HasEnded history views pass = BeginsWith history pass.1 × (calls_of pass.0 history ≡ calls_of pass.0 pass.1)
    × ((place : ℕ) × (pass.0 ≡ place + 1) × (get_elem? views place ≡ some Spent))

module _ {S Ask Answer : Type 0} (start : S) (passes served drawn : ℕ) (owner : ℕ → ℕ) (out : Bool) (history : Log Ask Answer)
    (views : List (View S Ask Answer)) where
  -- what a living seat knows is so
  pub record IsTrue (seat : ℕ) (known : Known S Ask Answer) : Type 0 where
    pub start_is : known.start ≡ start
    pub passes_are : known.passes ≡ passes
    pub number_is : known.number ≡ seat + 1
    pub deals : known.dealt ≡ false → seat + 1 ≡ length views
    pub front : BeginsWith history known.seen
    pub own : calls_of known.number history ≡ calls_of known.number known.seen
    pub ended : All (HasEnded history views) known.ended
    pub stage : FitsStage served drawn owner out history seat known.seen known.stage

module _ {S Ask Answer : Type 0} (does : S → Ask → Answer × S) (start : S) (passes : ℕ) where
  pub record IsInTurn (s : State (Kept S Ask Answer) (View S Ask Answer)) : Type 0 where
    pub drawn : ℕ
    pub served : ℕ
    pub owner : ℕ → ℕ
    pub out : Bool
    pub history : Log Ask Answer
    pub kept : Kept S Ask Answer
    -- the words are the next ticket and the ticket that is served, counted modulo 2^64
    pub words : s.words ≡ drawn % 2 ^ 64 ∷ served % 2 ^ 64 ∷ []
    -- the tickets out are those from the served one up to before the next one, each in one view
    pub tickets : drawn ≡ served + ticket_count s.views
    pub few : passes < 2 ^ 32
    pub dealt : (0 < length s.views) × (length s.views ≤ passes)
    -- the slot stands for the history where it is at home, and it is out only with the holder of
    -- the served ticket
    pub slot : s.homes ≡ at_home out kept ∷ []
    pub home : out ≡ false → (kept.history.items ≡ history) × (kept.state ≡ last_state does start history)
    pub busy : out ≡ true → served < drawn
    pub legal : IsHistory does start history
    -- no call has a number that isn't a dealt pass's
    pub unmade : (number : ℕ) → (1 ≤ number → length s.views < number) → calls_of number history ≡ []
    pub living : (seat : ℕ) (known : Known S Ask Answer) → get_elem? s.views seat ≡ some (Living known)
        → IsTrue start passes served drawn owner out history s.views seat known
