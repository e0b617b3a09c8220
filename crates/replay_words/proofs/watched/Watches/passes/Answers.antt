use Rattle.std.proofs.Common.{sym, arith}
use Rattle.replay_words.specs.Watched.{watched_let_go, watched_passing_text}
use Rattle.replay_words.proofs.Joining.{joined}
use Rattle.replay_words.proofs.watched.Watches.passes.Goals as goal

pub returns-clause-text : goal.returns-clause-text
unfolding watched_passing_text
returns-clause-text c = rw (sym c.self.view_is) (joined _ _ _ _ _ c.in_ok-vlans.ensures.text c.in_ok-others.ensures.text)

pub returns-clause-count : goal.returns-clause-count
unfolding watched_let_go
returns-clause-count c =
    let sum = c.saturating_add.ensures in
    let vlans = c.in_ok-vlans.ensures.count in
    let others = c.in_ok-others.ensures.count in
    rw (sym c.self.view_is) (grind (arith, sum, vlans, others))
