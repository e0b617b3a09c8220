use Rattle.std.proofs.Common.{arith}
use Rattle.scenario_generator.specs.{loss}
use Rattle.scenario_generator.proofs.PairLemmas.{push-more}
use Rattle.scenario_generator.proofs.events.push_losses.Goals as goal

pub loop-n-preserved : goal.loop-n-preserved
loop-n-preserved c =
    push-more (loss c.args.draws.now) 0 c.loop-n.n (c.loop-n.n) _ _ _ _ (omega arith) c.loop-n.invariant c.in_ok-push.ensures.items c.loss.ensures
