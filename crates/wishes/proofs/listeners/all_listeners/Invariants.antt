use Rattle.std.proofs.Common.{◌≡◌, ◌+◌, ◌-◌, ◌++◌, length}
use Rattle.wishes.specs.{listeners, listeners_from}
use Rattle.wishes.proofs.listeners.all_listeners.Given as goal

-- those so far with those of the next numbers on are all
abbrev pub invariant-loop-y : goal.invariant-loop-y
invariant-loop-y l =
    l.stations.items ++ listeners_from l.world l.stream (l.y + 1) (length l.world.tree.kinds - l.y) ≡ listeners l.world l.stream
