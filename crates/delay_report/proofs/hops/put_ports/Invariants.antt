use Rattle.std.proofs.Common.{◌≡◌, ◌++◌, drop}
use Rattle.std.specs.Prelude.{flat_map}
use Rattle.delay_report.specs.Text.{port_hops}
use Rattle.delay_report.proofs.hops.put_ports.Given as goal

-- the text so far with the lines of the ports that are left is the whole
abbrev pub invariant-loop-at : goal.invariant-loop-at
invariant-loop-at l =
    l.out.items ++ flat_map (port_hops l.scenario l.facts) (drop l.at-index l.ports)
    ≡ l.fn.out.items ++ flat_map (port_hops l.scenario l.facts) l.ports
