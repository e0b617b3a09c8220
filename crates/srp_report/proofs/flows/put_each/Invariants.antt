use Rattle.std.proofs.Common.{◌≡◌, ◌++◌, drop}
use Rattle.std.specs.Prelude.{flat_map}
use Rattle.srp_report.specs.{flow_part}
use Rattle.srp_report.proofs.flows.put_each.Given as goal

-- the text so far with the lines of the flows that are left is the whole
abbrev pub invariant-loop-flow : goal.invariant-loop-flow
invariant-loop-flow l =
    l.out.items ++ flat_map (flow_part l.scenario l.tree.links) (drop l.flow-index l.flows)
    ≡ l.fn.out.items ++ flat_map (flow_part l.scenario l.tree.links) l.flows
