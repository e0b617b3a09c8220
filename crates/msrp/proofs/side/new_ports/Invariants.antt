use Rattle.std.proofs.Common.{◌≡◌, ◌++◌, map, drop}
use Rattle.msrp.specs.{ports_in, new_port}
use Rattle.msrp.proofs.side.new_ports.Given as goal

-- the ports so far and those that are left are all
abbrev pub invariant-loop-port : goal.invariant-loop-port
invariant-loop-port l =
    ports_in l.all.items ++ map (new_port l.bridge l.leave_time l.periodic l.domain) (drop l.port-index l.ports)
    ≡ map (new_port l.bridge l.leave_time l.periodic l.domain) l.ports
