use Rattle.std.proofs.Common.{◌≡◌, ◌++◌, drop}
use Rattle.std.specs.List.{flat_map}
use Rattle.msrp.specs.PortState.{PortState}
use Rattle.msrp.specs.{ports_in, registered_keys}
use Rattle.msrp.proofs.told.push_all_registered.Given as goal

-- what was put there, with those of the ports that are left, is all
abbrev pub invariant-loop-port : goal.invariant-loop-port
invariant-loop-port l =
    l.out.items ++ flat_map (λ (p : PortState). registered_keys p.part) (ports_in (drop l.port-index l.ports))
    ≡ l.fn.out.items ++ flat_map (λ (p : PortState). registered_keys p.part) (ports_in l.ports)
