use Rattle.std.proofs.Common.{◌≡◌, ◌<◌, ◌-◌, List, length, get_or}
use Rattle.tree_topology.specs.{Link, Connected, LeadsAlong}
use Rattle.tree_topology.proofs.components.Components.leader.Given as goal

abbrev pub invariant-loop-next : goal.invariant-loop-next
invariant-loop-next l =
    (l.at < length l.self.leaders.items) × (l.next ≡ get_or l.self.leaders.items l.at 0)
    × ((links : List Link) → LeadsAlong links l.self.leaders.items → Connected links l.fn.node l.at)

abbrev pub decreases-loop-next : goal.decreases-loop-next
decreases-loop-next l = 65536 - get_or l.self.ranks.items l.at 0
