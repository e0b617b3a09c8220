use Rattle.std.proofs.Common.{◌≡◌, ◌++◌}
use Rattle.std.specs.List.{flat_map, range_with_len}
use Rattle.group_run.specs.{port_at, works_at}
use Rattle.group_run.proofs.steps.push_works.Given as goal

-- the steps of the ports so far
abbrev pub invariant-loop-k : goal.invariant-loop-k
invariant-loop-k l =
    l.steps.items ≡ l.initial.steps.items ++ flat_map (λ k. works_at l.net (port_at l.node k)) (range_with_len 1 l.k)
