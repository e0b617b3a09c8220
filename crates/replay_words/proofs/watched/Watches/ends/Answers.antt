use Rattle.replay_words.proofs.UpTo.{are_up_to}
use Rattle.replay_words.proofs.watched.Watches.ends.Goals as goal

pub returns-clause-up_to : goal.returns-clause-up_to
returns-clause-up_to c = are_up_to c.args.at c.args.self.now c.in_ok-moments.moments.keys c.in_ok-moments.ensures
