use Rattle.std.proofs.Common.{◌≡◌, ◌++◌, drop}
use Rattle.std.specs.Prelude.{flat_map}
use Rattle.port_needs.specs.{edge_line}
use Rattle.port_needs.proofs.never.put_edges.Given as goal

-- the text so far with the lines of the ports that are left is the whole
abbrev pub invariant-loop-i : goal.invariant-loop-i
invariant-loop-i l =
    l.out.items ++ flat_map (edge_line l.scenario l.entry l.class l.stations) (drop l.i l.ports)
    ≡ l.fn.out.items ++ flat_map (edge_line l.scenario l.entry l.class l.stations) l.ports
