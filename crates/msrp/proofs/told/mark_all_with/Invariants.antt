use Rattle.std.proofs.Common.{◌≡◌, ◌≤◌, ◌+◌, length, drop}
use Rattle.attribute_propagation.specs.Dirty.{all_marked}
use Rattle.msrp.specs.{key_cmp, all_keys_with}
use Rattle.msrp.proofs.told.mark_all_with.Given as goal

-- the keys that are there, with those that are left, are what all make, and there is room for those that are left
abbrev pub invariant-loop-key : goal.invariant-loop-key
invariant-loop-key l = record {
  marked : all_marked key_cmp (all_keys_with (drop l.key-index l.keys)) l.set.keys ≡ all_marked key_cmp (all_keys_with l.keys) l.fn.set.keys;
  room : length (drop l.key-index l.keys) + length (drop l.key-index l.keys) ≤ l.set.spare;
}
