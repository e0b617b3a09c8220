use Rattle.std.proofs.Common.{◌≡◌, ◌++◌, take, drop, map}
use Rattle.msrp.specs.{ports_in, clocked_port}
use Rattle.msrp.proofs.clock.clock_all.Given as goal

-- the ports so far are clocked, and the others are as they were
abbrev pub invariant-loop-port : goal.invariant-loop-port
invariant-loop-port l =
    ports_in l.port-items ≡ map (clocked_port l.now.0) (take l.port-index (ports_in l.fn.ports.items)) ++ drop l.port-index (ports_in l.fn.ports.items)
