use Rattle.std.proofs.Common.{◌≡◌, ◌++◌, drop}
use Rattle.std.specs.Prelude.{flat_map}
use Rattle.port_needs.specs.{port_needs}
use Rattle.port_needs.proofs.ports.put_ports.Given as goal

-- the text so far with the lines of the ports that are left is the whole
abbrev pub invariant-loop-i : goal.invariant-loop-i
invariant-loop-i l =
    l.out.items ++ flat_map (port_needs l.scenario l.demands) (drop l.i l.ports)
    ≡ l.fn.out.items ++ flat_map (port_needs l.scenario l.demands) l.ports
