-- Histories of an object that one thread steps, and what a pass has seen of one.
use Rattle.std.specs.Prelude.{◌≡◌, ◌==◌, ℕ, List, [], ◌∷◌, ◌++◌, filter}

-- one call: the number of the pass that made it, what it asked, and what it was answered
abbrev pub Entry : Type 0 → Type 0 → Type 0
Entry Ask Answer = ℕ × Ask × Answer

-- calls in their order
abbrev pub Log : Type 0 → Type 0 → Type 0
Log Ask Answer = List (Entry Ask Answer)

module _ {Ask Answer : Type 0} where
  abbrev pub number_of : Entry Ask Answer → ℕ
  number_of entry = entry.0

  abbrev pub ask_of : Entry Ask Answer → Ask
  ask_of entry = entry.1

  abbrev pub answer_of : Entry Ask Answer → Answer
  answer_of entry = entry.2

  -- the calls of the pass with a number, in order
  abbrev pub calls_of : ℕ → Log Ask Answer → Log Ask Answer
  calls_of number history = filter (λ (e : Entry Ask Answer). number_of e == number) history

  -- the history begins with what was seen
  abbrev pub BeginsWith : Log Ask Answer → Log Ask Answer → Type 0
  BeginsWith history seen = (later : Log Ask Answer) × (history ≡ seen ++ later)

-- `does` is the one-thread step: the answer to an ask at a state, and the state after it
module _ {S Ask Answer : Type 0} (does : S → Ask → Answer × S) where
  -- the state that a history leaves
  abbrev pub last_state : S → Log Ask Answer → S
  last_state start [] = start
  last_state start (entry ∷ later) = last_state (does start (ask_of entry)).1 later

  -- each answer is the one-thread step's at the state that the earlier entries leave
  abbrev pub IsHistory : S → Log Ask Answer → Type 0
  IsHistory start history = (earlier later : Log Ask Answer) (entry : Entry Ask Answer)
      → history ≡ earlier ++ entry ∷ later → answer_of entry ≡ (does (last_state start earlier) (ask_of entry)).0
