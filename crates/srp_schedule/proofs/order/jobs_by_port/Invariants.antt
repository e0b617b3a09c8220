use Rattle.std.proofs.Common.{◌≡◌, ◌++◌, ◌-◌, map, length}
use Rattle.std.specs.List.{range_with_len}
use Rattle.node_core.specs.State.{ports_of, job_list}
use Rattle.srp_schedule.proofs.order.jobs_by_port.Given as goal

-- the jobs of the ports so far and of those that are left are all, a list for each port
abbrev pub invariant-loop-at : goal.invariant-loop-at
invariant-loop-at l =
    (l.jobs.items ++ map (λ at. job_list at l.node.state) (range_with_len l.at (ports_of l.node.state - l.at)) ≡ map (λ at. job_list at l.node.state) (range_with_len 0 (ports_of l.node.state)))
    × (length l.jobs.items ≡ l.at)
