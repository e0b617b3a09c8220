use Rattle.std.proofs.Common.{ap, map}
use Rattle.toml.specs.Data.{table}
use Rattle.toml.specs.View.{view}
use Rattle.plan_file.specs.{event_members}
use Rattle.plan_file.proofs.TableLemmas.{data-step}
use Rattle.plan_file.proofs.tables.event_values.Goals as goal

pub loop-event-preserved : goal.loop-event-preserved
loop-event-preserved c =
    data-step (λ x. table (event_members c.args.nodes.now c.args.streams.now x)) c.args.events.now c.loop-event.event-index _ (map view c.loop-event.values.items) (map view c.push_table.new.values.items) _ _
    c.loop-event-test.true (ap table c.in_ok-table.ensures) c.in_ok-push_table.ensures c.loop-event.invariant
