use Rattle.std.proofs.Common.{take}
use Rattle.frame_flow.specs.{AreByNode}
use Rattle.frame_flow.proofs.by_node.add_frames.Given as goal

abbrev pub invariant-loop-f : goal.invariant-loop-f
invariant-loop-f l = AreByNode l.last (take l.f-index l.frames) l.lists.items
