use Rattle.std.proofs.Common.{◌+◌, arith}
use Rattle.scenario_generator.specs.{bridge_link}
use Rattle.scenario_generator.proofs.PairLemmas.{push-more}
use Rattle.scenario_generator.proofs.network.push_bridge_links.Goals as goal

pub loop-i-preserved : goal.loop-i-preserved
loop-i-preserved c =
    push-more (bridge_link c.args.draws.now) 2 c.loop-i.i (c.loop-i.i + 2) _ _ _ _ (omega arith) c.loop-i.invariant c.in_ok-push.ensures.items c.bridge_link.ensures
