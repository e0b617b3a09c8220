-- The node lies behind none of the ports so far.
use Rattle.std.proofs.Common.{◌≡◌, ◌+◌, ◌<◌, ℕ, false}
use Rattle.tree_topology.specs.Walk.{is_behind}
use Rattle.frame_flow.specs.Copies.{port_of}
use Rattle.class_delays.proofs.setting.DelaySetting.side.Given as goal

abbrev pub invariant-loop-k : goal.invariant-loop-k
invariant-loop-k l = (j : ℕ) → j < l.k → is_behind l.self.setting.tree.links (port_of l.at.node.0 (j + 1)) l.node.0 ≡ false
