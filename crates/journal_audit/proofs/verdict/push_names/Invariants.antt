use Rattle.std.proofs.Common.{◌≡◌, ◌++◌, ◌-◌, ◌+◌, map, length}
use Rattle.std.specs.List.{range_with_len}
use Rattle.tree_topology.specs.Ports.{neighbours}
use Rattle.frame_flow.specs.Copies.{port_of}
use Rattle.report_words.specs.Names.{port_name}
use Rattle.journal_audit.specs.{names_at}
use Rattle.journal_audit.proofs.verdict.push_names.Given as goal

-- the names so far and those that are left are all
abbrev pub invariant-loop-k : goal.invariant-loop-k
invariant-loop-k l =
    l.names.items ++ map (λ k. port_name l.scenario.nodes l.scenario.tree.links (port_of l.node.0 k)) (range_with_len (l.k + 1) (length (neighbours l.scenario.tree.links l.node.0) - l.k))
    ≡ l.fn.names.items ++ names_at l.scenario l.node.0
