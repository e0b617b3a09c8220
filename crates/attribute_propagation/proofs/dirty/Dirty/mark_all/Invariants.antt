use Rattle.std.proofs.Common.{◌≡◌, ◌≤◌, ◌+◌, length, drop}
use Rattle.attribute_propagation.specs.{all_marked}
use Rattle.attribute_propagation.proofs.dirty.Dirty.mark_all.Given as goal

-- the keys so far and those that are left make what all make, there is room for those that are left, and each so far took
-- one of the spare at most
abbrev pub invariant-loop-key : goal.invariant-loop-key
invariant-loop-key g l =
    (all_marked g.K.Ord.cmp (drop l.key-index l.keys) l.self.keys ≡ all_marked g.K.Ord.cmp l.keys l.fn.self.keys)
    × (length (drop l.key-index l.keys) ≤ l.self.spare)
    × (l.fn.self.spare + length (drop l.key-index l.keys) ≤ l.self.spare + length l.keys)
