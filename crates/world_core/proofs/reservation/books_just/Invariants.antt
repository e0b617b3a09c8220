use Rattle.std.proofs.Common.{◌≡◌, ◌≤◌, length, drop}
use Rattle.world_core.specs.{booked_streams, are_same_streams}
use Rattle.world_core.proofs.reservation.books_just.Given as goal

abbrev pub invariant-loop-i : goal.invariant-loop-i
invariant-loop-i l =
    (l.next ≤ length l.streams)
    × (are_same_streams l.streams (booked_streams l.ledger.book.entries) ≡ are_same_streams (drop l.next l.streams) (booked_streams (drop l.i l.ledger.book.entries)))
