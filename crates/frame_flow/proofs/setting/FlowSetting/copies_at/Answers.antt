use Rattle.frame_flow.proofs.IncomingLemmas.{gathered, has-arriving, of-setting}
use Rattle.frame_flow.proofs.setting.FlowSetting.copies_at.Goals as goal

pub returns-clause-serve : goal.returns-clause-serve
returns-clause-serve c =
    let s = c.args.self.now in
    has-arriving s c.keeps.ensures.given c.args.flows.now c.args.at _ _
    (gathered s c.args.flows.now c.args.at _ _ _ c.clear.ensures.items c.in_ok-own_copies.ensures c.in_ok-onward_copies.ensures)
    c.in_ok-sort_shared.ensures

pub returns-clause-frames : goal.returns-clause-frames
returns-clause-frames c =
    let s = c.args.self.now in
    of-setting s c.keeps.ensures.given c.args.flows.now c.args.at _ _
    (gathered s c.args.flows.now c.args.at _ _ _ c.clear.ensures.items c.in_ok-own_copies.ensures c.in_ok-onward_copies.ensures)
    c.in_ok-sort_shared.ensures
