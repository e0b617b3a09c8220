use Rattle.std.proofs.Common.{arith}
use Rattle.mmrp.proofs.Registered.{next_place}
use Rattle.mmrp.proofs.matching.push_macs.Goals as goal

pub loop-i-preserved : goal.loop-i-preserved
loop-i-preserved c =
    next_place c.args.part.now.state.rows c.loop-i.i _ _ _ (omega (arith, c.loop-i-test.true, c.rows-i-end.ensures))
    c.in_ok-push_mac.ensures c.loop-i.invariant
