use Rattle.std.proofs.Common.{◌≡◌, ◌≤◌, ◌++◌, length, map}
use Rattle.mvrp_codec.specs.{streaks, streaks_octets, AreVids}
use Rattle.mvrp_codec.proofs.writing.put_streaks.Given as goal

abbrev pub invariant-more : goal.invariant-more
invariant-more l =
    (l.out.items ++ streaks_octets l.leave (streaks l.rest) ≡ l.initial.out.items ++ streaks_octets l.leave_all (streaks l.events))
    × (AreVids l.rest → AreVids l.events)
    × (l.rest_alone ≡ map (λ x. x.0) l.rest)
    × (length l.rest_alone ≤ 8191)

abbrev pub decreases-more : goal.decreases-more
decreases-more l = length l.rest
