use Rattle.std.proofs.Common.{ap, map}
use Rattle.toml.specs.Data.{table}
use Rattle.toml.specs.View.{view}
use Rattle.plan_file.proofs.TableLemmas.{streams-step}
use Rattle.plan_file.proofs.tables.stream_values.Goals as goal

pub loop-i-preserved : goal.loop-i-preserved
loop-i-preserved c =
    streams-step c.args.nodes.now c.args.streams.now c.args.ids.now c.args.dests.now c.loop-i.i c.index-streams-i.result _ (map view c.loop-i.values.items)
    (map view c.push_table.new.values.items) _ _ c.loop-i-test.true c.requires.ids c.requires.dests c.index-streams-i.is (ap table c.in_ok-table.ensures) c.in_ok-push_table.ensures c.loop-i.invariant
