use Rattle.std.proofs.Common.{◌≡◌, ◌++◌}
use Rattle.std.specs.Prelude.{flat_map}
use Rattle.std.specs.List.{range_with_len}
use Rattle.frame_flow.specs.{incoming_by}
use Rattle.frame_flow.proofs.setting.FlowSetting.onward_copies.Given as goal

abbrev pub invariant-loop-k : goal.invariant-loop-k
invariant-loop-k l =
    l.copies.items ≡ l.initial.copies.items ++ flat_map (incoming_by l.self.tree.links l.self.frames l.self.ticks l.flows l.at) (range_with_len 1 l.k)
