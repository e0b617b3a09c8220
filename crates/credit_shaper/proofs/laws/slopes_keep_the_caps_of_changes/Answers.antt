use Rattle.credit_shaper.proofs.{PortLemmas.slope_a_below, PortLemmas.slope_b_below, StepLemmas.slopes_within}
use Rattle.credit_shaper.proofs.laws.slopes_keep_the_caps_of_changes.Goals as goal

pub returns-clause-caps : goal.returns-clause-caps
returns-clause-caps c = slopes_within

pub returns-clause-below : goal.returns-clause-below
returns-clause-below c input t valid = (slope_a_below input t valid, slope_b_below input t valid)
