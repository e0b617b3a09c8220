use Rattle.std.proofs.Common.{◌≡◌, ◌||◌, drop, vec_capacity}
use Rattle.port_ledger.specs.{gains, has_loss, has_move, loses, noted, streams_passed}
use Rattle.port_ledger.proofs.Passing.{PassesAt}
use Rattle.port_ledger.proofs.decide.pass.Given as goal

abbrev pub invariant-loop-x : goal.invariant-loop-x
invariant-loop-x l =
    PassesAt l.now.0 l.caps l.taken l.fn.order l.fn.entries l.sum l.x-index l.order l.entries
    × (noted (vec_capacity l.fn.notes.booked) l.fn.notes.booked.items (streams_passed gains l.caps l.taken l.fn.order)
    ≡ noted (vec_capacity l.notes.booked) l.notes.booked.items (streams_passed gains l.caps l.sum (drop l.x-index l.order)))
    × (noted (vec_capacity l.fn.notes.dropped) l.fn.notes.dropped.items (streams_passed loses l.caps l.taken l.fn.order)
    ≡ noted (vec_capacity l.notes.dropped) l.notes.dropped.items (streams_passed loses l.caps l.sum (drop l.x-index l.order)))
    × (has_loss l.caps l.taken l.fn.order ≡ (l.lost || has_loss l.caps l.sum (drop l.x-index l.order)))
    × ((l.fn.notes.any || has_move l.caps l.taken l.fn.order) ≡ (l.notes.any || has_move l.caps l.sum (drop l.x-index l.order)))
