use Rattle.std.proofs.Common.{◌≡◌, ◌++◌, drop}
use Rattle.std.specs.Prelude.{flat_map}
use Rattle.plan_text.specs.Text.{node_table}
use Rattle.plan_text.proofs.text.put_nodes.Given as goal

-- the text so far with the tables of the nodes that are left is the whole
abbrev pub invariant-loop-node : goal.invariant-loop-node
invariant-loop-node l = l.out.items ++ flat_map (node_table l.domains) (drop l.node-index l.nodes) ≡ l.initial.out.items ++ flat_map (node_table l.domains) l.nodes
