use Rattle.std.proofs.Common.{◌≡◌, ◌++◌, drop, map}
use Rattle.wishes.specs.{is_idle}
use Rattle.wishes.proofs.resting.idle_nodes.Given as goal

-- the flags so far with those of the nodes that are left are all
abbrev pub invariant-loop-i : goal.invariant-loop-i
invariant-loop-i l = l.idle.items ++ map is_idle (drop l.i l.world.nodes) ≡ map is_idle l.world.nodes
