use Rattle.std.proofs.Common.{◌≡◌, ◌++◌}
use Rattle.std.specs.VecDeque.{deque_len}
use Rattle.world_core.specs.{all_changes_of}
use Rattle.world_core.proofs.history.join.Given as goal

abbrev pub invariant-loop-node : goal.invariant-loop-node
invariant-loop-node l = l.all.items ++ all_changes_of l.rest.items ≡ all_changes_of l.fn.nodes.items

abbrev pub decreases-loop-node : goal.decreases-loop-node
decreases-loop-node l = deque_len l.rest
