use Rattle.std.proofs.Common.{◌≡◌, ◌+◌, ℕ, length, drop}
use Rattle.attribute_propagation.specs.Ports.{HasRoom, keys_in, marked_everywhere}
use Rattle.msrp.specs.{key_cmp, all_keys_with}
use Rattle.msrp.proofs.told.tell_all.Given as goal

-- the keys that are there, with those that are left, are what all make, and there is room for those that are left
abbrev pub invariant-loop-key : goal.invariant-loop-key
invariant-loop-key l = record {
  marked : marked_everywhere key_cmp (all_keys_with (drop l.key-index l.told)) (keys_in l.sets.items)
      ≡ marked_everywhere key_cmp (all_keys_with l.told) (keys_in l.fn.sets.items);
  room : (n : ℕ) → HasRoom ((length l.told + length l.told) + n) l.fn.sets.items
      → HasRoom ((length (drop l.key-index l.told) + length (drop l.key-index l.told)) + n) l.sets.items;
}
