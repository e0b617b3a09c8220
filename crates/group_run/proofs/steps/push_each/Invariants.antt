use Rattle.std.proofs.Common.{◌≡◌, ◌++◌, map}
use Rattle.std.specs.List.{range_with_len}
use Rattle.mmrp.specs.declared.events.GroupEvent.TheVariants.{Port}
use Rattle.group_run.specs.{port_at}
use Rattle.group_run.proofs.steps.push_each.Given as goal

-- the steps of the ports so far
abbrev pub invariant-loop-k : goal.invariant-loop-k
invariant-loop-k l =
    l.steps.items ≡ l.initial.steps.items ++ map (λ k. Port (port_at l.node k) l.step) (range_with_len 1 l.k)
