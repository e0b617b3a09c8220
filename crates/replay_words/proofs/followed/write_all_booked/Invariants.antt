use Rattle.std.proofs.Common.{◌≡◌, ◌++◌, drop, string_bytes}
use Rattle.std.specs.Prelude.{flat_map}
use Rattle.replay_words.specs.{booked_text}
use Rattle.replay_words.proofs.followed.write_all_booked.Given as goal

-- the text so far with what is said of the bookings that are left is the whole
abbrev pub invariant-loop-booking : goal.invariant-loop-booking
invariant-loop-booking l =
    string_bytes l.out ++ flat_map (booked_text l.at l.who l.before.keys) (drop l.booking-index l.after)
    ≡ string_bytes l.initial.out ++ flat_map (booked_text l.at l.who l.before.keys) l.after
