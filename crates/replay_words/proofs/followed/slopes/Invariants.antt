use Rattle.std.proofs.Common.{◌≡◌, ◌+◌, ◌*◌, ◌^◌, ◌≤◌, drop}
use Rattle.std.specs.Prelude.{sum_by}
use Rattle.replay_words.proofs.followed.slopes.Given as goal

-- the sum so far with the slopes that are left is the whole, and each has 64 bits
abbrev pub invariant-loop-booking : goal.invariant-loop-booking
invariant-loop-booking l = record {
  whole : l.sum + sum_by (λ b. b.slope) (drop l.booking-index l.bookings) ≡ sum_by (λ b. b.slope) l.bookings;
  few : l.sum ≤ l.booking-index * 2 ^ 64;
}
