use Rattle.credit_shaper.proofs.DepartureLemmas.{line_is}
use Rattle.credit_shaper.proofs.laws.the_line_carries_the_departures.Goals as goal

pub returns : goal.returns
returns c = line_is
