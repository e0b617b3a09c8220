use Rattle.std.proofs.Common.{◌+◌, arith}
use Rattle.scenario_generator.specs.{stream_events}
use Rattle.scenario_generator.proofs.PairLemmas.{extend-more}
use Rattle.scenario_generator.proofs.events.push_streams.Goals as goal

pub loop-i-preserved : goal.loop-i-preserved
loop-i-preserved c =
    extend-more (stream_events c.args.draws.now) 1 c.loop-i.i (c.loop-i.i + 1) _ _ _ (omega arith) c.loop-i.invariant c.in_ok-push_stream.ensures
