use Rattle.std.proofs.Common.{◌≡◌, ◌++◌, ◌+◌, drop}
use Rattle.srp_schedule.specs.{turn_from}
use Rattle.srp_schedule.proofs.order.push_turn.Given as goal

-- the steps so far and those of the ports that are left are all
abbrev pub invariant-loop-at : goal.invariant-loop-at
invariant-loop-at l = l.order.items ++ turn_from l.turn (l.at + 1) (drop l.at l.jobs) ≡ l.initial.order.items ++ turn_from l.turn 1 l.jobs
