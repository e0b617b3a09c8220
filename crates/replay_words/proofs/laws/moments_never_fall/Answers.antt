use Rattle.replay_words.proofs.Runs.{never_falls}
use Rattle.replay_words.proofs.laws.moments_never_fall.Goals as goal

pub returns : goal.returns
returns c = never_falls
