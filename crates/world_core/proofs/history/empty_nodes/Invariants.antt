use Rattle.std.proofs.Common.{◌≡◌, [], map}
use Rattle.std.specs.List.{range_with_len}
use Rattle.frame_flow.specs.Copies.{ports_at}
use Rattle.world_core.proofs.history.empty_nodes.Given as goal

abbrev pub invariant-loop-x : goal.invariant-loop-x
invariant-loop-x l = l.nodes.items ≡ map (λ x. map (λ _. []) (ports_at l.tree.links x)) (range_with_len 1 l.x)
