use Rattle.std.proofs.Common.{◌≡◌, ◌≤◌, ◌+◌, length, drop}
use Rattle.std.specs.List.{flat_map}
use Rattle.attribute_propagation.specs.Dirty.{all_marked}
use Rattle.msrp.specs.{key_cmp, ports_in, talker_keys_in}
use Rattle.msrp.proofs.talker_keys.mark_all_registered.Given as goal

-- the keys that are there, with those of the ports that are left, are what all make, and those that are left have room
abbrev pub invariant-loop-port : goal.invariant-loop-port
invariant-loop-port l = record {
  marked : all_marked key_cmp (flat_map (λ p. talker_keys_in p.part) (ports_in (drop l.port-index l.ports))) l.set.keys
      ≡ all_marked key_cmp (flat_map (λ p. talker_keys_in p.part) (ports_in l.ports)) l.fn.set.keys;
  room : l.fn.set.spare + length (flat_map (λ p. talker_keys_in p.part) (ports_in (drop l.port-index l.ports)))
      ≤ l.set.spare + length (flat_map (λ p. talker_keys_in p.part) (ports_in l.ports));
}
