use Rattle.std.proofs.Common.{◌∙◌}
use Rattle.wishes.proofs.StandingLemmas.{standings_are}
use Rattle.wishes.proofs.standing.are_same_standings.Goals as goal

pub returns : goal.returns
returns c = c.eq.ensures ∙ standings_are c.args.before.now c.args.now.now
