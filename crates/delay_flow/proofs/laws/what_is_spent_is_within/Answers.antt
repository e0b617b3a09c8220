use Rattle.delay_flow.proofs.WayLemmas.{spent-within}
use Rattle.delay_flow.proofs.laws.what_is_spent_is_within.Goals as goal

pub returns : goal.returns
returns c s traffic streams n x p sound rules feeds has node port fed = spent-within s (c.ports.ensures s.tree sound) traffic streams n rules feeds x has node p port fed
