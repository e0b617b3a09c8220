use Rattle.std.proofs.Common.{◌≡◌, ◌++◌, map, take}
use Rattle.std.specs.Prelude.{filter_map}
use Rattle.frame_flow.specs.{incoming_of}
use Rattle.frame_flow.proofs.setting.FlowSetting.own_copies.Given as goal

abbrev pub invariant-loop-f : goal.invariant-loop-f
invariant-loop-f l =
    l.copies.items ≡ l.initial.copies.items ++ filter_map (incoming_of l.self.ticks l.at.rate 0)
    (map (λ f. record { frame = f.now; moment = f.now.at.0 }) (take l.f-index l.f-items))
