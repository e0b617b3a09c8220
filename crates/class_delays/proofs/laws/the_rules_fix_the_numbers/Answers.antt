use Rattle.class_delays.proofs.Fixed.{rules-fix}
use Rattle.class_delays.proofs.laws.the_rules_fix_the_numbers.Goals as goal

pub returns : goal.returns
returns c a one other p sound nodes h k port = rules-fix a (c.ports.ensures a.setting.tree sound) nodes one other h k p port
