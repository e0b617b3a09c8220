use Rattle.std.proofs.Common.{◌≡◌, ◌++◌}
use Rattle.std.specs.Prelude.{flat_map}
use Rattle.std.specs.VecDeque.{deque_len}
use Rattle.srp_base.specs.Text.{whole_of}
use Rattle.srp_report.specs.{flow_part}
use Rattle.srp_report.proofs.printout.lines_of.Given as goal

-- the lines of the flows so far, and of those that are left
abbrev pub invariant-loop-flow : goal.invariant-loop-flow
invariant-loop-flow l =
    whole_of l.ports.items ++ flat_map (flow_part l.scenario l.tree.links) l.rest.items ≡ flat_map (flow_part l.scenario l.tree.links) l.fn.flow.ports

abbrev pub decreases-loop-flow : goal.decreases-loop-flow
decreases-loop-flow l = deque_len l.rest
