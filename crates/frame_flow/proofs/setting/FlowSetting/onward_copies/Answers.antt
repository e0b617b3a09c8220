use Rattle.frame_flow.proofs.ListFacts.{grown, flat-range-next}
use Rattle.frame_flow.specs.{incoming_by}
use Rattle.frame_flow.proofs.setting.FlowSetting.onward_copies.Goals as goal

pub loop-k-preserved : goal.loop-k-preserved
loop-k-preserved c =
    grown _ _ _ _ _ _ c.loop-k.invariant c.in_ok-copies_by.ensures
    (flat-range-next (incoming_by c.args.self.now.tree.links c.args.self.now.frames c.args.self.now.ticks c.args.flows.now c.args.at) c.loop-k.k)
