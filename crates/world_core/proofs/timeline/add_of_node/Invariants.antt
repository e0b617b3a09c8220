use Rattle.std.proofs.Common.{◌≡◌, ◌++◌, map}
use Rattle.std.specs.Prelude.{flat_map}
use Rattle.std.specs.List.{range_with_len}
use Rattle.frame_flow.specs.{Force.changes_at, Copies.port_of}
use Rattle.world_core.specs.{force_at, lacking}
use Rattle.world_core.proofs.timeline.add_of_node.Given as goal

abbrev pub invariant-loop-k : goal.invariant-loop-k
invariant-loop-k l =
    l.fresh.items
    ≡ l.initial.fresh.items ++ flat_map (λ p. lacking l.tick p (force_at p l.world) (changes_at l.changes p)) (map (port_of l.number.0) (range_with_len 1 l.k))
