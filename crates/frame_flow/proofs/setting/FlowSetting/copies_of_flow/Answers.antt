use Rattle.frame_flow.proofs.ListFacts.{grown, added-more}
use Rattle.frame_flow.specs.{handed_on, incoming_of}
use Rattle.frame_flow.proofs.setting.FlowSetting.copies_of_flow.Goals as goal

pub loop-number-preserved : goal.loop-number-preserved
loop-number-preserved c =
    grown _ _ _ _ _ _ c.loop-number.invariant c.in_ok-add_departed.ensures
    (added-more (incoming_of c.args.self.now.ticks c.args.rate c.args.ingress.0)
    (λ e. handed_on c.args.self.now.frames c.args.flow.now.input.rate e.0 e.1) c.as_slice-number-items.result.now c.loop-number.number-index _ c.loop-number-test.true)
