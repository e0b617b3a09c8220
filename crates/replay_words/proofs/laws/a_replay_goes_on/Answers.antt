use Rattle.replay_words.proofs.Runs.{goes_on, seen_on}
use Rattle.replay_words.proofs.laws.a_replay_goes_on.Goals as goal

pub returns-clause-text : goal.returns-clause-text
returns-clause-text c = goes_on

pub returns-clause-seen : goal.returns-clause-seen
returns-clause-seen c = seen_on
