use Rattle.std.proofs.Common.{◌∙◌, ap, map}
use Rattle.toml.specs.Data.{table}
use Rattle.toml.specs.View.{view}
use Rattle.plan_file.specs.{link_members}
use Rattle.plan_file.proofs.TableLemmas.{data-step}
use Rattle.plan_file.proofs.tables.link_values.Goals as goal

pub loop-link-preserved : goal.loop-link-preserved
loop-link-preserved c =
    data-step (λ x. table (link_members c.args.nodes.now x)) c.args.links.now c.loop-link.link-index c.link-item.result (map view c.loop-link.values.items) (map view c.push_table.new.values.items) _ _
    c.loop-link-test.true (ap table c.in_ok-table.ensures ∙ ap (λ x. table (link_members c.args.nodes.now x)) c.link-item.is) c.in_ok-push_table.ensures c.loop-link.invariant
