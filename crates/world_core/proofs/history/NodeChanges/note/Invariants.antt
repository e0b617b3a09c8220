use Rattle.std.proofs.Common.{◌≡◌}
use Rattle.world_core.specs.{ports_noted}
use Rattle.world_core.proofs.history.NodeChanges.note.Given as goal

abbrev pub invariant-loop-k : goal.invariant-loop-k
invariant-loop-k l = l.self-inside.ports.items ≡ ports_noted l.tick l.node.state l.number 1 l.k l.fn.self
