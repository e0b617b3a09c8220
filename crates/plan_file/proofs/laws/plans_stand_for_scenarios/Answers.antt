use Rattle.plan_file.specs.{expanded, scenario_for}
use Rattle.plan_file.proofs.ExpandLaw.{expanded-read}
use Rattle.plan_file.proofs.laws.plans_stand_for_scenarios.Goals as goal

pub returns-clause-reads : goal.returns-clause-reads
returns-clause-reads c = λ p k. expanded-read c.refusals.ensures.accepted p k

pub returns-clause-kept : goal.returns-clause-kept
returns-clause-kept c = λ p k. c.read_scenarios_keep_the_rules.ensures (expanded p) (scenario_for p) (expanded-read c.refusals.ensures.accepted p k)
