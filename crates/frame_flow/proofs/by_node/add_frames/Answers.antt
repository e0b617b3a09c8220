use Rattle.frame_flow.proofs.CopyLemmas.{none-by-node, more-by-node}
use Rattle.frame_flow.proofs.by_node.add_frames.Goals as goal

pub loop-f-init : goal.loop-f-init
loop-f-init c = none-by-node c.args.last c.args.lists.now.items c.requires

pub loop-f-preserved : goal.loop-f-preserved
loop-f-preserved c =
    more-by-node c.args.last c.args.frames.now c.loop-f.f-index _ c.loop-f.lists.items _ c.loop-f-test.true c.in_ok-add_frame.ensures c.loop-f.invariant
