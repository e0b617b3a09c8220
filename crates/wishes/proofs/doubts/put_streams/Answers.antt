use Rattle.std.proofs.Common.{◌∙◌}
use Rattle.wishes.proofs.ListLemmas.{next_stream}
use Rattle.wishes.proofs.doubts.put_streams.Goals as goal

pub loop-i-preserved : goal.loop-i-preserved
loop-i-preserved c =
    next_stream c.args.scenario.now c.args.world.now c.loop-i.i c.loop-i.out.items c.put_stream.new.out.items c.args.streams.now c.index-streams-i.result
    c.loop-i-test.true c.index-streams-i.is c.in_ok-put_stream.ensures ∙ c.loop-i.invariant
