use Rattle.std.proofs.Common.{◌≡◌, drop}
use Rattle.std.specs.Prelude.{flat_map}
use Rattle.attribute_propagation.specs.Dirty.{all_marked}
use Rattle.link_replay.specs.BothWays.{way_of}
use Rattle.replay_words.specs.{booking_cmp, row_booked, bookings_of}
use Rattle.replay_words.proofs.booking.bookings_of.Given as goal

-- the bookings that are kept, with those of the rows that are left, are all
abbrev pub invariant-loop-i : goal.invariant-loop-i
invariant-loop-i l =
    all_marked booking_cmp (flat_map (row_booked l.watch.ways l.who) (drop l.i (way_of l.who l.watch.ways).observer.rows)) l.set.keys
    ≡ bookings_of l.who l.watch.ways
