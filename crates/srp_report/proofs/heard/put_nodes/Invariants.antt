use Rattle.std.proofs.Common.{◌≡◌, ◌+◌, ◌++◌, drop}
use Rattle.srp_report.specs.{nodes_heard}
use Rattle.srp_report.proofs.heard.put_nodes.Given as goal

-- the text so far with the lines of the nodes that are left is the whole
abbrev pub invariant-loop-i : goal.invariant-loop-i
invariant-loop-i l =
    l.out.items ++ nodes_heard l.scenario (l.i + 1) (drop l.i l.world.nodes)
    ≡ l.fn.out.items ++ nodes_heard l.scenario 1 l.world.nodes
