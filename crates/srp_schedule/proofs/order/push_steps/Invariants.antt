use Rattle.std.proofs.Common.{◌≡◌, ◌++◌, map, filter, drop}
use Rattle.srp_schedule.specs.{is_in_turn}
use Rattle.srp_schedule.proofs.order.push_steps.Given as goal

-- the steps so far and those of the jobs that are left are all
abbrev pub invariant-loop-step : goal.invariant-loop-step
invariant-loop-step l =
    l.order.items ++ map (λ step. (l.port, step)) (filter (is_in_turn l.turn) (drop l.step-index l.steps))
    ≡ l.initial.order.items ++ map (λ step. (l.port, step)) (filter (is_in_turn l.turn) l.steps)
