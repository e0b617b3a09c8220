use Rattle.std.proofs.Common.{◌≡◌, ◌+◌, ◌-◌, ◌&&◌, length}
use Rattle.std.specs.List.{list_any, range_with_len}
use Rattle.tree_topology.specs.Walk.{is_behind}
use Rattle.mmrp.specs.{is_joined_at, is_joined_behind}
use Rattle.mmrp.proofs.matching.is_joined_by_some.Given as goal

-- whether there is such a station is whether there is one from the next number on
abbrev pub invariant-loop-y : goal.invariant-loop-y
invariant-loop-y l =
    is_joined_behind l.net l.mac l.at
    ≡ list_any (λ y. is_behind l.net.tree.links l.at y && is_joined_at l.net l.mac y) (range_with_len (l.y + 1) (length l.net.tree.kinds - l.y))
