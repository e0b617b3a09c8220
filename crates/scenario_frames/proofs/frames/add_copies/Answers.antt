use Rattle.scenario_frames.proofs.CopyLemmas.{copies-more}
use Rattle.scenario_frames.proofs.frames.add_copies.Goals as goal

pub loop-index-preserved : goal.loop-index-preserved
loop-index-preserved c =
    let more = copies-more c.args.entry.now c.args.way c.args.first c.loop-index.index c.args.frames.now.items in
    cc (c.in_ok-push.ensures.items, c.frame.ensures)
