use Rattle.std.proofs.Common.{◌≡◌, not, drop, filter}
use Rattle.attribute_propagation.specs.Dirty.{all_marked}
use Rattle.link_replay.specs.{cs_cmp, is_up_to, later_than}
use Rattle.link_replay.proofs.way.later_than.Given as goal

-- the set with those that are left is the whole
abbrev pub invariant-loop-moment : goal.invariant-loop-moment
invariant-loop-moment l =
    all_marked cs_cmp (filter (λ u. not (is_up_to l.at u)) (drop l.moment-index l.moments)) l.set.keys ≡ later_than l.at l.moments
