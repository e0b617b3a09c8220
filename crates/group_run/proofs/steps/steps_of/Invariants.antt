use Rattle.std.proofs.Common.{◌≡◌}
use Rattle.std.specs.List.{flat_map, range_with_len}
use Rattle.group_run.specs.{node_steps}
use Rattle.group_run.proofs.steps.steps_of.Given as goal

-- the steps of the nodes so far
abbrev pub invariant-loop-x : goal.invariant-loop-x
invariant-loop-x l = l.steps.items ≡ flat_map (λ x. node_steps l.net (record { 0 = x })) (range_with_len 1 l.x)
