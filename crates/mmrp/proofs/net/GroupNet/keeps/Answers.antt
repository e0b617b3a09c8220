use Rattle.std.proofs.Common.{subst}
use Rattle.mmrp.specs.{IsKeptNet}
use Rattle.mmrp.proofs.net.GroupNet.keeps.Goals as goal

pub returns : goal.returns
returns c = subst IsKeptNet c.self.view_is c.keeps.ensures
