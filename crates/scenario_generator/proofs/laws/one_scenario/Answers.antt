use Rattle.scenario_generator.proofs.RulesKept.{drawn-alone}
use Rattle.scenario_generator.proofs.laws.one_scenario.Goals as goal

pub returns : goal.returns
returns c = drawn-alone
