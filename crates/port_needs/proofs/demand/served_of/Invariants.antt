use Rattle.std.proofs.Common.{◌≡◌, ◌++◌, drop}
use Rattle.port_needs.specs.{served_of, AreNodes}
use Rattle.port_needs.proofs.demand.served_of.Given as goal

-- the served stations so far with those of the stations that are left are all, and the former are
-- nodes
abbrev pub invariant-loop-i : goal.invariant-loop-i
invariant-loop-i l =
    (l.served.items ++ served_of l.scenario l.ports l.class l.talker (drop l.i l.stations)
    ≡ served_of l.scenario l.ports l.class l.talker l.stations)
    × AreNodes l.scenario.tree l.served.items
