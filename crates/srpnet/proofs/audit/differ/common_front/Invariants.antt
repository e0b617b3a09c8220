use Rattle.std.proofs.Common.{◌≡◌, ◌≤◌, ◌-◌, length, take}
use Rattle.srpnet.specs.{line_feeds}
use Rattle.srpnet.proofs.audit.differ.common_front.Given as goal

abbrev pub invariant-loop-octets : goal.invariant-loop-octets
invariant-loop-octets l =
    (l.octets ≤ length l.one) × (l.octets ≤ length l.other) × (take l.octets l.one ≡ take l.octets l.other)
    × (l.lines ≡ line_feeds (take l.octets l.one)) × (l.lines ≤ l.octets)

abbrev pub decreases-loop-octets : goal.decreases-loop-octets
decreases-loop-octets l = length l.one - l.octets
