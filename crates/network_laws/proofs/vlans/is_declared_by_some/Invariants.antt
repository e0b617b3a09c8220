use Rattle.std.proofs.Common.{◌≡◌, ◌+◌, ◌-◌, ◌&&◌, length}
use Rattle.std.specs.List.{list_any, range_with_len}
use Rattle.tree_topology.specs.Walk.{is_behind}
use Rattle.network_laws.specs.{is_declared_at, is_declared_behind}
use Rattle.network_laws.proofs.vlans.is_declared_by_some.Given as goal

-- whether there is such a station is whether there is one from the next number on
abbrev pub invariant-loop-y : goal.invariant-loop-y
invariant-loop-y l =
    is_declared_behind l.world l.vid l.at
    ≡ list_any (λ y. is_behind l.world.tree.links l.at y && is_declared_at l.world l.vid y) (range_with_len (l.y + 1) (length l.world.tree.kinds - l.y))
