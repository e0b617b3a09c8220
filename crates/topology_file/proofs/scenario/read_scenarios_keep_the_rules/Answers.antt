use Rattle.topology_file.specs.{KeepsRules, scenario_of}
use Rattle.topology_file.proofs.{Chains.ok-says, Kept.scenario-keeps}
use Rattle.topology_file.proofs.scenario.read_scenarios_keep_the_rules.Goals as goal

pub returns : goal.returns
returns c ms plan is =
    ok-says KeepsRules (scenario_of ms) plan is (scenario-keeps c.refusals.ensures.accepted ms)
