use Rattle.std.proofs.Common.{◌≡◌, ◌++◌, map, drop}
use Rattle.toml.specs.Data.{table}
use Rattle.toml.specs.View.{view}
use Rattle.plan_file.specs.{node_members}
use Rattle.plan_file.proofs.tables.node_values.Given as goal

-- the tables so far with those of the entries that are left are the whole
abbrev pub invariant-loop-node : goal.invariant-loop-node
invariant-loop-node l =
    map view l.values.items ++ map (λ x. table (node_members l.domains x)) (drop l.node-index l.nodes) ≡ map (λ x. table (node_members l.domains x)) l.nodes
