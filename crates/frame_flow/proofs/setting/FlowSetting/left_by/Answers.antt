use Rattle.std.proofs.Common.{◌∙◌, ℕ, List, Vec, Global, ap, sym}
use Rattle.std.specs.Prelude.{not, ◌==◌, ◌&&◌}
use Rattle.frame_flow.specs.{CopyOf, Frame, FrameCopy, goes_by, Setting}
use Rattle.frame_flow.proofs.{IncomingLemmas.left-more, IncomingLemmas.left-same, setting.FlowSetting.left_by.Goals.then-leaves_by+in_ok-push, setting.FlowSetting.left_by.Goals.else-leaves_by}
use Rattle.frame_flow.proofs.setting.FlowSetting.left_by.Goals as goal

pub loop-c-preserved : goal.loop-c-preserved
loop-c-preserved c =
    let links = c.args.self.now.tree.links in
    let port = c.args.port in
    let item = c.c-item.result in
    let to : Vec CopyOf Global → List FrameCopy = λ v. v.items in
    let leaves = c.leaves_by.ensures ∙ ap (λ (s : Setting). not (item.ingress == port.port.0) && goes_by s.tree.links port item.copy.frame.route) c.self.view_is in
    elim c.if-leaves_by.branch [
      | then-leaves_by+in_ok-push w ↦ (
          let copy : ℕ → Frame → FrameCopy = λ b f. record { bit = b; frame = f } in
          let made = w.new.ensures ∙ ap (λ (b : ℕ). copy b w.frame.result.now) w.bit.ensures ∙ ap (λ (f : Frame). copy item.copy.bit f) w.frame.ensures in
          left-more links port c.args.copies.now c.loop-c.c-index _ item _ _ _ c.loop-c-test.true c.c-item.is (sym leaves ∙ w.if-leaves_by.true) c.loop-c.invariant made
          (ap to w.left-is ∙ w.in_ok-push.ensures.items))
      | else-leaves_by w ↦ left-same links port c.args.copies.now c.loop-c.c-index _ item _ _ c.loop-c-test.true c.c-item.is (sym leaves ∙ w.if-leaves_by.false) c.loop-c.invariant (ap to w.left-is)
    ]
