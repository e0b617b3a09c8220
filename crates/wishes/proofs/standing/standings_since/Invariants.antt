use Rattle.std.proofs.Common.{◌≡◌, ◌++◌, drop}
use Rattle.wishes.specs.{standings_since}
use Rattle.wishes.proofs.standing.standings_since.Given as goal

-- what stands at the nodes so far with what stands at those that are left is all
abbrev pub invariant-loop-i : goal.invariant-loop-i
invariant-loop-i l =
    l.standings.items ++ standings_since l.streams l.rests l.old l.i (drop l.i l.world.nodes) ≡ standings_since l.streams l.rests l.old 0 l.world.nodes
