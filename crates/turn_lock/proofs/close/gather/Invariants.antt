use Rattle.std.proofs.Common.{◌≡◌, length, All}
use Rattle.turn_lock.specs.{TakesIn}
use Rattle.turn_lock.proofs.close.gather.Given as goal

abbrev pub invariant-loop-other : goal.invariant-loop-other
invariant-loop-other g l =
    (l.seat.table_id ≡ l.fn.seat.table_id) × TakesIn l.fn.seat.me l.fn.others.items l.others.items l.seat.me
    × All (λ p. p.lock.table ≡ l.fn.board.table_id) l.others.items

abbrev pub decreases-loop-other : goal.decreases-loop-other
decreases-loop-other g l = length l.others.items
