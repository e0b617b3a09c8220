use Rattle.std.proofs.Common.{◌≡◌, ◌+◌, ◌++◌, drop}
use Rattle.std.specs.List.{AllByRecursion}
use Rattle.port_needs.specs.{demands_from, IsKnownDemand}
use Rattle.port_needs.proofs.demand.demands_of.Given as goal

-- what is wished so far with what is of the streams that are left is all, and the former is known
abbrev pub invariant-loop-i : goal.invariant-loop-i
invariant-loop-i l =
    (l.found.items ++ demands_from l.scenario l.ports l.wishes (l.i + 1) (drop l.i l.scenario.streams)
    ≡ demands_from l.scenario l.ports l.wishes 1 l.scenario.streams)
    × AllByRecursion (IsKnownDemand l.scenario.tree) l.found.items
