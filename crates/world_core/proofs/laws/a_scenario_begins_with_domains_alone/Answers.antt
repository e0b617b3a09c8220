use Rattle.world_core.proofs.NewRows.{begins_with}
use Rattle.world_core.proofs.laws.a_scenario_begins_with_domains_alone.Goals as goal

pub returns : goal.returns
returns c = λ plan x entry s there new. begins_with plan x entry s there new
