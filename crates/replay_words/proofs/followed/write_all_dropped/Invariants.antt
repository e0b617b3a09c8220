use Rattle.std.proofs.Common.{◌≡◌, ◌++◌, drop, string_bytes}
use Rattle.std.specs.Prelude.{flat_map}
use Rattle.replay_words.specs.{dropped_text}
use Rattle.replay_words.proofs.followed.write_all_dropped.Given as goal

-- the text so far with what is said of the bookings that are left is the whole
abbrev pub invariant-loop-booking : goal.invariant-loop-booking
invariant-loop-booking l =
    string_bytes l.out ++ flat_map (dropped_text l.at l.who l.after.keys) (drop l.booking-index l.before)
    ≡ string_bytes l.initial.out ++ flat_map (dropped_text l.at l.who l.after.keys) l.before
