use Rattle.std.proofs.Common.{sym}
use Rattle.replay_words.specs.Watched.{watched_judging_text}
use Rattle.replay_words.proofs.Joining.{joined}
use Rattle.replay_words.proofs.watched.Watches.judges.Goals as goal

pub returns-clause-text : goal.returns-clause-text
unfolding watched_judging_text
returns-clause-text c = rw (sym c.self.view_is) (joined _ _ _ _ _ c.in_ok-vlans.ensures.text c.in_ok-others.ensures.text)
