use Rattle.std.proofs.Common.{◌≡◌, ◌≤◌, ◌+◌, ◌++◌, vec_len, vec_capacity}
use Rattle.std.specs.VecDeque.{deque_len}
use Rattle.world_core.specs.{changes_among}
use Rattle.world_core.proofs.merging.merge.Given as goal

abbrev pub invariant-loop-change : goal.invariant-loop-change
invariant-loop-change l =
    (deque_len l.old + deque_len l.lacking + vec_len l.all ≤ vec_capacity l.all)
    × (l.all.items ++ changes_among l.old.items l.lacking.items ≡ l.fn.all.items ++ changes_among l.fn.old.items l.fn.lacking.items)

abbrev pub decreases-loop-change : goal.decreases-loop-change
decreases-loop-change l = deque_len l.old
