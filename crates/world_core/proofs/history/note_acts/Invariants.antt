use Rattle.std.proofs.Common.{◌≡◌, take}
use Rattle.frame_flow.specs.Force.{changes_at}
use Rattle.world_core.specs.{by_port, all_changes_of, act_noted}
use Rattle.world_core.proofs.history.note_acts.Given as goal

abbrev pub invariant-loop-made : goal.invariant-loop-made
invariant-loop-made l =
    l.nodes.items ≡ by_port l.world.tree (λ p. act_noted l.tick (take l.made-index l.steps) l.world p (changes_at (all_changes_of l.initial.nodes.items) p))
