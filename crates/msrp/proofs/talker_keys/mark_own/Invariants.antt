use Rattle.std.proofs.Common.{◌≡◌, ◌≤◌, ◌+◌, length, drop, map}
use Rattle.attribute_propagation.specs.Dirty.{all_marked}
use Rattle.msrp_codec.specs.declared.pdu.MsrpKey.TheVariants as keys
use Rattle.msrp.specs.{key_cmp}
use Rattle.msrp.proofs.talker_keys.mark_own.Given as goal

-- the keys that are there, with those that are left, are what all make, and those that are left have room
abbrev pub invariant-loop-talker : goal.invariant-loop-talker
invariant-loop-talker l = record {
  marked : all_marked key_cmp (map (λ t. keys.Talker t.stream) (drop l.talker-index l.talks)) l.set.keys
      ≡ all_marked key_cmp (map (λ t. keys.Talker t.stream) l.talks) l.fn.set.keys;
  room : l.fn.set.spare + length (drop l.talker-index l.talks) ≤ l.set.spare + length l.talks;
}
