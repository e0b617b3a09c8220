use Rattle.std.proofs.Common.{◌≡◌, ◌∙◌, ap}
use Rattle.topology_file.specs.Plan.{Plan as ScenarioPlan}
use Rattle.plan_file.specs.{network_table, with_events, with_streams}
use Rattle.plan_file.proofs.tables.whole_table.Goals as goal

pub returns : goal.returns
returns c =
    let streams = c.args.streams.now in
    let read = c.as_slice-nodes.result.now in
    let nodes : read ≡ c.args.network.now.nodes = c.as_slice-nodes.ensures ∙ ap (λ (p : ScenarioPlan). p.nodes) c.network.view_is in
    c.in_ok-put_events.ensures
    ∙ ap (λ ms. with_events read streams ms) (c.in_ok-put_streams.ensures ∙ ap (λ ms. with_streams read streams ms) c.in_ok-table.ensures)
    ∙ ap (λ ns. with_events ns streams (with_streams ns streams (network_table c.args.network.now))) nodes
