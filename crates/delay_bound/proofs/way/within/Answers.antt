use Rattle.std.proofs.Common.{arith}
use Rattle.delay_bound.proofs.WayLemmas.{within_end}
use Rattle.delay_bound.proofs.way.within.Goals as goal

pub returns : goal.returns
returns c =
    within_end c.args.least c.loop-hop.sum c.args.hops.now c.loop-hop.hop-index (omega arith) c.loop-hop.invariant.whole c.loop-hop.invariant.small
