use Rattle.std.proofs.Common.{◌≡◌, ◌+◌, ◌-◌, ◌<◌, length, take, drop}
use Rattle.mvrp_codec.specs.{streak_len, AreVids}
use Rattle.mvrp_codec.proofs.writing.streak_len.Given as goal

abbrev pub invariant-more : goal.invariant-more
invariant-more l = (l.at < length l.events) × (streak_len (drop l.at l.events) + l.at ≡ streak_len l.events) × AreVids (take l.at l.events)

abbrev pub decreases-more : goal.decreases-more
decreases-more l = length l.events - l.at
