use Rattle.std.proofs.Common.{◌≡◌}
use Rattle.std.specs.Prelude.{flat_map}
use Rattle.std.specs.List.{range_with_len}
use Rattle.frame_flow.specs.{Force.changes_at, Copies.ports_at}
use Rattle.world_core.specs.{force_at, lacking}
use Rattle.world_core.proofs.timeline.fresh_changes.Given as goal

abbrev pub invariant-loop-x : goal.invariant-loop-x
invariant-loop-x l =
    l.fresh.items ≡ flat_map (λ p. lacking l.tick p (force_at p l.world) (changes_at l.changes p)) (flat_map (ports_at l.world.tree.links) (range_with_len 1 l.x))
