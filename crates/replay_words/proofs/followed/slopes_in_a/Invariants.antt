use Rattle.std.proofs.Common.{◌≡◌, ◌+◌, ◌*◌, ◌^◌, ◌≤◌, drop}
use Rattle.std.specs.Prelude.{sum_by}
use Rattle.replay_words.specs.{slope_in_a}
use Rattle.replay_words.proofs.followed.slopes_in_a.Given as goal

-- the sum so far with the slopes that are left is the whole, and each has 64 bits
abbrev pub invariant-loop-booking : goal.invariant-loop-booking
invariant-loop-booking l = record {
  whole : l.sum + sum_by slope_in_a (drop l.booking-index l.bookings) ≡ sum_by slope_in_a l.bookings;
  few : l.sum ≤ l.booking-index * 2 ^ 64;
}
