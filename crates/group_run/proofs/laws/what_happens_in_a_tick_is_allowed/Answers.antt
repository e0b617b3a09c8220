use Rattle.group_run.proofs.Happening.{carries_allowed, plan_ports, scripted_allowed, steps_allowed}
use Rattle.group_run.proofs.laws.what_happens_in_a_tick_is_allowed.Goals as goal

pub returns-clause-scripted : goal.returns-clause-scripted
returns-clause-scripted c = λ plan t rules. scripted_allowed plan rules (plan_ports c.ports.ensures plan rules) t

pub returns-clause-steps : goal.returns-clause-steps
returns-clause-steps c = steps_allowed

pub returns-clause-carried : goal.returns-clause-carried
returns-clause-carried c = λ plan rules. carries_allowed plan rules (plan_ports c.ports.ensures plan rules)
