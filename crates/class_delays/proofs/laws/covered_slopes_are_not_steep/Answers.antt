use Rattle.class_delays.proofs.Covered.{not-steep}
use Rattle.class_delays.proofs.laws.covered_slopes_are_not_steep.Goals as goal

pub returns : goal.returns
returns c a p sound port covered steep = not-steep a (c.ports.ensures a.setting.tree sound) p port covered steep
