use Rattle.std.proofs.Common.{◌≡◌, ◌++◌, drop}
use Rattle.world_core.specs.{registered_vids}
use Rattle.world_core.proofs.reservation.vids_of.Given as goal

abbrev pub invariant-loop-i : goal.invariant-loop-i
invariant-loop-i l = l.vids.items ++ registered_vids (drop l.i l.part.state.rows) ≡ registered_vids l.part.state.rows
