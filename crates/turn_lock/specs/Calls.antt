-- What one call on a lock leaves: what the pass has seen after it.
use Rattle.std.specs.Prelude.{◌≡◌, ℕ, [], ◌∷◌, ◌++◌}
use Rattle.turn_lock.specs.History.{Log, calls_of, BeginsWith, last_state, IsHistory}

module _ {S Ask Answer : Type 0} (does : S → Ask → Answer × S) (start : S) (number : ℕ) (before : Log Ask Answer) where
  -- the pass has seen a history from the opening state, which begins with all that it had seen and
  -- ends with this call; the answer is the one-thread step's there; of the pass's own calls it has
  -- the earlier ones and this one
  pub record HasCalled (ask : Ask) (answer : Answer) (after : Log Ask Answer) : Type 0 where
    pub earlier : Log Ask Answer
    pub call_is_last : after ≡ earlier ++ (number, ask, answer) ∷ []
    pub front : BeginsWith earlier before
    pub answer_is : answer ≡ (does (last_state does start earlier) ask).0
    pub legal : IsHistory does start after
    pub own : calls_of number after ≡ calls_of number before ++ (number, ask, answer) ∷ []

  -- the pass has seen a history from the opening state, which begins with all that it had seen; of
  -- the pass's own calls it has the earlier ones alone
  pub record HasLooked (after : Log Ask Answer) : Type 0 where
    pub front : BeginsWith after before
    pub legal : IsHistory does start after
    pub own : calls_of number after ≡ calls_of number before
