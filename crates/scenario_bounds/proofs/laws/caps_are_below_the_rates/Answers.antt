use Rattle.scenario_bounds.proofs.PlaceLemmas.{flows_below}
use Rattle.scenario_bounds.proofs.laws.caps_are_below_the_rates.Goals as goal

pub returns : goal.returns
returns c plan changes flows rules is = flows_below plan rules changes flows is
