use Rattle.std.proofs.Common.{◌≡◌, ◌+◌, ◌-◌, ◌≤◌, vec_len, vec_capacity}
use Rattle.turn_lock.specs.{first_passes, IsDealtFrom, lock_of}
use Rattle.turn_lock.proofs.begin.deal.Given as goal

abbrev pub invariant-loop-dealt : goal.invariant-loop-dealt
invariant-loop-dealt g l =
    IsDealtFrom l.fn.terms l.fn.board.table_id l.fn.board.key l.seat (l.dealt + 1)
    × (l.list.items ≡ first_passes (lock_of l.fn.board.table_id l.fn.terms) l.dealt)
    × (vec_len l.list ≡ l.dealt) × (l.fn.terms.passes ≤ vec_capacity l.list)

abbrev pub decreases-loop-dealt : goal.decreases-loop-dealt
decreases-loop-dealt g l = l.fn.terms.passes - l.dealt
