use Rattle.std.proofs.Common.{List, [], ◌∷◌}
use Rattle.std.specs.Prelude.{flat_map}
use Rattle.attribute_propagation.specs.Dirty.{IsAscending, with_key, all_marked}
use Rattle.link_replay.specs.BothWays.{way_of}
use Rattle.replay_words.specs.declared.booking.Booking.{Booking}
use Rattle.replay_words.specs.{booking_cmp, row_booked, bookings_of}
use Rattle.replay_words.proofs.BookedFor.{only, each}
use Rattle.replay_words.proofs.laws.what_is_booked_stands.Goals as goal

all_ascend : ((x : Booking) (set : List Booking) → IsAscending booking_cmp set → IsAscending booking_cmp (with_key booking_cmp x set))
    → (new set : List Booking) → IsAscending booking_cmp set → IsAscending booking_cmp (all_marked booking_cmp new set)
all_ascend marked [] set are = are
all_ascend marked (x ∷ new) set are = all_ascend marked new (with_key booking_cmp x set) (marked x set are)

pub returns-clause-booked : goal.returns-clause-booked
returns-clause-booked c = λ who ways booking.
    (only who ways booking c.each_key_awaits.ensures.all_marked, each who ways booking c.each_key_awaits.ensures.all_marked)

pub returns-clause-once : goal.returns-clause-once
unfolding bookings_of
returns-clause-once c = λ who ways.
    all_ascend c.keys_stay_ascending.ensures.marked (flat_map (row_booked ways who) (way_of who ways).observer.rows) [] tt
