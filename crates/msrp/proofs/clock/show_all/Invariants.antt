use Rattle.std.proofs.Common.{◌≡◌, ◌++◌, length, take, drop}
use Rattle.attribute_propagation.specs.Ports.{HasRoom, keys_in}
use Rattle.msrp.specs.{ports_in, talker_keys, clocked_sets}
use Rattle.msrp.proofs.clock.show_all.Given as goal

-- the sets so far and what the clock makes of those that are left are all, and those that are left have room
abbrev pub invariant-loop-place : goal.invariant-loop-place
invariant-loop-place l = record {
  shown : take l.place (keys_in l.sets.items) ++ clocked_sets l.now.0 (talker_keys l.talks (ports_in l.ports)) (drop l.place (ports_in l.ports)) (drop l.place (keys_in l.sets.items))
      ≡ clocked_sets l.now.0 (talker_keys l.talks (ports_in l.ports)) (ports_in l.ports) (keys_in l.fn.sets.items);
  room : HasRoom (length (talker_keys l.talks (ports_in l.ports))) (drop l.place l.sets.items);
  many : length l.sets.items ≡ length l.fn.sets.items;
}
