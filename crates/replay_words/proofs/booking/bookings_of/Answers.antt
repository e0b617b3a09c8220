use Rattle.link_replay.specs.BothWays.{way_of}
use Rattle.replay_words.specs.{row_booked}
use Rattle.replay_words.proofs.BookingLemmas.{from_next}
use Rattle.replay_words.proofs.booking.bookings_of.Goals as goal

pub loop-i-preserved : goal.loop-i-preserved
loop-i-preserved c =
    from_next (row_booked c.args.watch.now.ways c.args.who) (way_of c.args.who c.args.watch.now.ways).observer.rows c.loop-i.i _ _ _
    c.loop-i.invariant c.in_ok-mark_row.ensures
