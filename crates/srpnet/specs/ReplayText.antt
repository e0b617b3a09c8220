-- What `srpnet replay` prints of a captured link, and how it ends.
use Rattle.std.specs.Prelude.{ℕ, List, Result, Ok, Err}
use Rattle.replay_words.specs.{Replay.replayed, declared.error.ReplayErr.ReplayErr}
use Rattle.replay_words.specs.declared.error.ReplayErr.TheVariants as replay
use Rattle.srpnet.specs.declared.outcome.Cause.{Cause}
use Rattle.srpnet.specs.declared.outcome.Cause.TheVariants.{NotToml, BadScenario, NoMemory}

-- why a captured link isn't replayed, as a cause: that no line parts the head from the capture is rule
-- 60 of the file as a whole
abbrev pub cause_of_replay : ReplayErr → Cause
cause_of_replay replay.NoLine = BadScenario 60 0
cause_of_replay replay.NotToml = NotToml
cause_of_replay (replay.Rule rule entry) = BadScenario rule entry
cause_of_replay replay.NoMemory = NoMemory

-- what is printed of a captured link, as a cause where nothing is
abbrev pub as_cause : Result (List ℕ) ReplayErr → Result (List ℕ) Cause
as_cause (Ok text) = Ok text
as_cause (Err failure) = Err (cause_of_replay failure)

-- of the octets of an input: what is printed, or the cause of their refusal
abbrev pub replay_input : List ℕ → Result (List ℕ) Cause
replay_input octets = as_cause (replayed octets)
