use Rattle.std.proofs.Common.{◌≤◌, ◌+◌, length, drop}
use Rattle.std.specs.List.{flat_map}
use Rattle.msrp.specs.{ports_in, talker_keys, talker_keys_in}
use Rattle.msrp.proofs.talker_keys.talker_count.Given as goal

-- all keys are no more than were counted, with those of the ports that are left
abbrev pub invariant-loop-port : goal.invariant-loop-port
invariant-loop-port l =
    length (talker_keys l.talks (ports_in l.ports)) ≤ l.count + length (flat_map (λ p. talker_keys_in p.part) (ports_in (drop l.port-index l.ports)))
