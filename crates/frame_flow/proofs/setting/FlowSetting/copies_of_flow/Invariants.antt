use Rattle.std.proofs.Common.{◌≡◌, ◌++◌, take}
use Rattle.std.specs.Prelude.{filter_map, flat_map}
use Rattle.frame_flow.specs.{handed_on, incoming_of}
use Rattle.frame_flow.proofs.setting.FlowSetting.copies_of_flow.Given as goal

abbrev pub invariant-loop-number : goal.invariant-loop-number
invariant-loop-number l =
    l.copies.items ≡ l.initial.copies.items ++ filter_map (incoming_of l.self.ticks l.rate l.ingress.0)
    (flat_map (λ e. handed_on l.self.frames l.flow.input.rate e.0 e.1) (take l.number-index l.number-items))
