use Rattle.std.proofs.Common.{◌≡◌, ◌+◌, ◌-◌, length}
use Rattle.std.specs.Prelude.{find}
use Rattle.std.specs.List.{range_with_len}
use Rattle.network_laws.specs.Streams.{is_talked_at, talking_node}
use Rattle.wishes.proofs.listeners.talking_station.Given as goal

-- the lowest of all is the lowest from the next number on
abbrev pub invariant-loop-y : goal.invariant-loop-y
invariant-loop-y l =
    talking_node l.world l.stream
    ≡ find (is_talked_at l.world l.stream) (range_with_len (l.y + 1) (length l.world.tree.kinds - l.y))
