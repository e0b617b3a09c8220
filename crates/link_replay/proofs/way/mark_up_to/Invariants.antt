use Rattle.std.proofs.Common.{◌≡◌, drop, filter}
use Rattle.attribute_propagation.specs.Dirty.{all_marked}
use Rattle.link_replay.specs.{cs_cmp, is_up_to}
use Rattle.link_replay.proofs.way.mark_up_to.Given as goal

-- the set with those that are left is the whole
abbrev pub invariant-loop-moment : goal.invariant-loop-moment
invariant-loop-moment l =
    all_marked cs_cmp (filter (is_up_to l.at) (drop l.moment-index l.moments)) l.set.keys
    ≡ all_marked cs_cmp (filter (is_up_to l.at) l.moments) l.initial.set.keys
