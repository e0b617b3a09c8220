use Rattle.std.proofs.Common.{◌≡◌, ◌+◌, drop}
use Rattle.node_core.specs.Holding.{states_in}
use Rattle.world_core.specs.{are_nodes_sound}
use Rattle.world_core.proofs.marking.are_nodes_in_step.Given as goal

-- all are sound exactly where those that are left are
abbrev pub invariant-loop-i : goal.invariant-loop-i
invariant-loop-i l = are_nodes_sound 1 (states_in l.nodes.items) l.marks ≡ are_nodes_sound (l.i + 1) (drop l.i (states_in l.nodes.items)) l.marks
