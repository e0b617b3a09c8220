use Rattle.std.proofs.Common.{◌≡◌, take}
use Rattle.frame_flow.specs.{leaving}
use Rattle.frame_flow.proofs.setting.FlowSetting.left_by.Given as goal

abbrev pub invariant-loop-c : goal.invariant-loop-c
invariant-loop-c l = l.left.items ≡ leaving l.self.tree.links l.port (take l.c-index l.copies)
