use Rattle.topology_file.proofs.Chains.{ok-says}
use Rattle.plan_file.specs.{KeepsPlanRules, plan_of}
use Rattle.plan_file.proofs.PlanKept.{plan-keeps}
use Rattle.plan_file.proofs.laws.read_plans_keep_the_rules.Goals as goal

pub returns : goal.returns
returns c ms p is = ok-says KeepsPlanRules (plan_of ms) p is (plan-keeps c.refusals.ensures.accepted ms)
