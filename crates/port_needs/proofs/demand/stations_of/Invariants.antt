use Rattle.std.proofs.Common.{◌≡◌, ◌++◌, drop}
use Rattle.port_needs.specs.{stations_of, AreNodes}
use Rattle.port_needs.proofs.demand.stations_of.Given as goal

-- the stations so far with those of the wishes that are left are all, and the former are nodes
abbrev pub invariant-loop-wish : goal.invariant-loop-wish
invariant-loop-wish l =
    (l.found.items ++ stations_of l.tree (drop l.wish-index l.wishes) l.number ≡ stations_of l.tree l.wishes l.number)
    × AreNodes l.tree l.found.items
