use Rattle.std.proofs.Common.{◌≡◌, ◌+◌, ◌-◌}
use Rattle.node_core.specs.State.{ports_of}
use Rattle.world_core.specs.{are_ports_sound}
use Rattle.world_core.proofs.marking.are_ports_in_step.Given as goal

-- all are sound exactly where those that are left are
abbrev pub invariant-loop-i : goal.invariant-loop-i
invariant-loop-i l =
    are_ports_sound l.number l.node.state l.marks 1 (ports_of l.node.state) ≡ are_ports_sound l.number l.node.state l.marks (l.i + 1) (ports_of l.node.state - l.i)
