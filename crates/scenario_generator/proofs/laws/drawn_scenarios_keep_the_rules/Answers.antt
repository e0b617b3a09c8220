use Rattle.scenario_generator.proofs.RulesKept.{drawn-keeps}
use Rattle.scenario_generator.proofs.laws.drawn_scenarios_keep_the_rules.Goals as goal

pub returns : goal.returns
returns c = λ number p is. drawn-keeps number p is c.one_component.ensures.tree
