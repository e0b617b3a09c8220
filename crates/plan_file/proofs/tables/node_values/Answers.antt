use Rattle.std.proofs.Common.{◌∙◌, ap, map}
use Rattle.toml.specs.Data.{table}
use Rattle.toml.specs.View.{view}
use Rattle.plan_file.specs.{node_members}
use Rattle.plan_file.proofs.TableLemmas.{data-step}
use Rattle.plan_file.proofs.tables.node_values.Goals as goal

pub loop-node-preserved : goal.loop-node-preserved
loop-node-preserved c =
    data-step (λ x. table (node_members c.args.domains x)) c.args.nodes.now c.loop-node.node-index c.node-item.result (map view c.loop-node.values.items) (map view c.push_table.new.values.items) _ _
    c.loop-node-test.true (ap table c.in_ok-table.ensures ∙ ap (λ x. table (node_members c.args.domains x)) c.node-item.is) c.in_ok-push_table.ensures c.loop-node.invariant
