use Rattle.std.proofs.Common.{arith}
use Rattle.node_core.proofs.Registered.{next_place}
use Rattle.node_core.proofs.naming.push_keys.Goals as goal

pub loop-i-preserved : goal.loop-i-preserved
loop-i-preserved g c =
    next_place g.A.NodeApp.name c.args.part.now.state.rows c.loop-i.i _ _ _ (omega (arith, c.loop-i-test.true, c.rows-i-end.ensures))
    c.in_ok-push_key.ensures c.loop-i.invariant
