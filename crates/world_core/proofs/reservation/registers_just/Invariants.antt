use Rattle.std.proofs.Common.{◌≡◌, ◌≤◌, length, drop}
use Rattle.world_core.specs.{registered_vids, are_same_vids}
use Rattle.world_core.proofs.reservation.registers_just.Given as goal

abbrev pub invariant-loop-i : goal.invariant-loop-i
invariant-loop-i l =
    (l.next ≤ length l.vids)
    × (are_same_vids l.vids (registered_vids l.part.state.rows) ≡ are_same_vids (drop l.next l.vids) (registered_vids (drop l.i l.part.state.rows)))
