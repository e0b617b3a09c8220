use Rattle.std.proofs.Common.{◌≡◌, ◌≤◌, ◌+◌, ◌++◌, vec_len, vec_capacity}
use Rattle.std.specs.VecDeque.{deque_len}
use Rattle.world_core.specs.{front_before, rest_from}
use Rattle.world_core.proofs.merging.move_before.Given as goal

abbrev pub invariant-loop-change : goal.invariant-loop-change
invariant-loop-change l =
    (deque_len l.lacking + vec_len l.all ≤ vec_capacity l.all)
    × (l.all.items ++ front_before l.at l.lacking.items ≡ l.fn.all.items ++ front_before l.at l.fn.lacking.items)
    × (rest_from l.at l.lacking.items ≡ rest_from l.at l.fn.lacking.items)
    × (vec_capacity l.fn.all ≤ vec_capacity l.all)
    × (deque_len l.lacking + vec_len l.all ≡ deque_len l.fn.lacking + vec_len l.fn.all)

abbrev pub decreases-loop-change : goal.decreases-loop-change
decreases-loop-change l = deque_len l.lacking
