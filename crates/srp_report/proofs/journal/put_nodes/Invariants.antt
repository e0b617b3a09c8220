use Rattle.std.proofs.Common.{◌≡◌, ◌++◌, drop}
use Rattle.std.specs.Prelude.{flat_map}
use Rattle.srp_report.specs.{step_lines}
use Rattle.srp_report.proofs.journal.put_nodes.Given as goal

-- the text so far with the lines of the nodes that are left is the whole
abbrev pub invariant-loop-made : goal.invariant-loop-made
invariant-loop-made l =
    l.out.items ++ flat_map (step_lines l.scenario l.t) (drop l.made-index l.nodes)
    ≡ l.fn.out.items ++ flat_map (step_lines l.scenario l.t) l.nodes
