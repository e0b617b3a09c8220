use Rattle.frame_flow.proofs.LawLemmas.{numbers_each, numbers_once}
use Rattle.frame_flow.proofs.laws.each_copy_has_one_fate.Goals as goal

pub returns-clause-each : goal.returns-clause-each
returns-clause-each c s flows is = numbers_each s flows is

pub returns-clause-once : goal.returns-clause-once
returns-clause-once c s flows given sound is = numbers_once s given (c.ports.ensures s.tree sound) flows is
