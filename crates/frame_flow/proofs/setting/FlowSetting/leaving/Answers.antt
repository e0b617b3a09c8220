use Rattle.frame_flow.proofs.IncomingLemmas.{left-in-order}
use Rattle.frame_flow.proofs.setting.FlowSetting.leaving.Goals as goal

pub returns : goal.returns
returns c =
    let s = c.args.self.now in
    left-in-order s s.tree.links c.args.port c.args.copies.now _ _ c.requires.frames c.in_ok-left.ensures c.in_ok-put_in_order.ensures.same
    c.in_ok-put_in_order.ensures.order
