use Rattle.std.proofs.Common.{◌≡◌, ◌++◌}
use Rattle.std.specs.VecDeque.{deque_len}
use Rattle.world_core.specs.{joined_ports}
use Rattle.world_core.proofs.history.join_ports.Given as goal

abbrev pub invariant-loop-changes : goal.invariant-loop-changes
invariant-loop-changes l = l.all.items ++ joined_ports l.rest.items ≡ l.fn.all.items ++ joined_ports l.fn.ports.items

abbrev pub decreases-loop-changes : goal.decreases-loop-changes
decreases-loop-changes l = deque_len l.rest
