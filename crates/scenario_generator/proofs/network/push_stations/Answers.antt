use Rattle.std.proofs.Common.{◌+◌, arith}
use Rattle.scenario_generator.specs.{station_entry}
use Rattle.scenario_generator.proofs.PairLemmas.{push-more}
use Rattle.scenario_generator.proofs.network.push_stations.Goals as goal

pub loop-i-preserved : goal.loop-i-preserved
loop-i-preserved c =
    push-more (station_entry c.args.bridges) 1 c.loop-i.i (c.loop-i.i + 1) _ _ _ _ (omega arith) c.loop-i.invariant c.in_ok-push.ensures.items c.in_ok-node.ensures
