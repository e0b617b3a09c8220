use Rattle.std.proofs.Common.{◌≡◌, ◌+◌, ◌++◌, ℕ, drop, map}
use Rattle.flat_side.specs.Holding.{SideHolding}
use Rattle.link_node.specs.State.{state_of}
use Rattle.mmrp.specs.{nodes_from}
use Rattle.mmrp.proofs.start.new_nodes.Given as goal

-- the nodes so far and those of the entries that are left are all
abbrev pub invariant-loop-i : goal.invariant-loop-i
invariant-loop-i l =
    map (state_of (λ (side : SideHolding ℕ). side.state)) l.nodes.items ++ nodes_from l.leave_time l.periodic l.links (l.i + 1) (drop l.i l.entries)
    ≡ nodes_from l.leave_time l.periodic l.links 1 l.entries
