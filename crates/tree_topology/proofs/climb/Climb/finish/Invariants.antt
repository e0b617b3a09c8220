use Rattle.std.proofs.Common.{◌≡◌, ◌++◌, length, reverse}
use Rattle.tree_topology.proofs.climb.Climb.finish.Given as goal

abbrev pub invariant-loop-port : goal.invariant-loop-port
invariant-loop-port l = l.ups.items ++ reverse l.downs.items ≡ l.initial.ups.items ++ reverse l.initial.downs.items

abbrev pub decreases-loop-port : goal.decreases-loop-port
decreases-loop-port l = length l.downs.items
