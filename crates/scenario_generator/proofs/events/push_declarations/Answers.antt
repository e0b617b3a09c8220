use Rattle.std.proofs.Common.{◌+◌, arith}
use Rattle.scenario_generator.specs.{declaration}
use Rattle.scenario_generator.proofs.PairLemmas.{push-more}
use Rattle.scenario_generator.proofs.events.push_declarations.Goals as goal

pub loop-i-preserved : goal.loop-i-preserved
loop-i-preserved c =
    push-more (declaration c.args.draws.now) 1 c.loop-i.i (c.loop-i.i + 1) _ _ _ _ (omega arith) c.loop-i.invariant c.in_ok-push.ensures.items c.declaration.ensures
