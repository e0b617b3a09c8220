use Rattle.std.proofs.Common.{◌≡◌, ◌≤◌, ◌+◌, length, drop, map}
use Rattle.std.specs.List.{flat_map}
use Rattle.attribute_propagation.specs.Dirty.{all_marked}
use Rattle.mrp_participant.specs.{Lookup.key_of, State.registered_at}
use Rattle.msrp.specs.{key_cmp, talker_key_if, talker_keys_in}
use Rattle.msrp.proofs.talker_keys.mark_registered.Given as goal

-- the keys that are there, with those of the rows that are left, are what all make, and those that are left have room
abbrev pub invariant-loop-place : goal.invariant-loop-place
invariant-loop-place l = record {
  marked : all_marked key_cmp (flat_map (λ key. talker_key_if key (registered_at key_cmp key l.part.state)) (drop l.place (map key_of l.part.state.rows))) l.set.keys
      ≡ all_marked key_cmp (talker_keys_in l.part.state) l.fn.set.keys;
  room : l.fn.set.spare + length (flat_map (λ key. talker_key_if key (registered_at key_cmp key l.part.state)) (drop l.place (map key_of l.part.state.rows)))
      ≤ l.set.spare + length (talker_keys_in l.part.state);
}
