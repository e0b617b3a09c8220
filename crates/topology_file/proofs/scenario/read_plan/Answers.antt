use Rattle.std.proofs.Common.{map}
use Rattle.std.proofs.lemmas.Result.{err_from_is_err_and}
use Rattle.toml.specs.View.{table_view}
use Rattle.toml_rules.specs.Rules.{broken_rule}
use Rattle.topology_file.specs.{KeepsRules, plan_of}
use Rattle.topology_file.proofs.{Chains.ok-says, Kept.plan_of-keeps, Parts.network-breaks, Parts.traffic-breaks, Parts.parts-make}
use Rattle.topology_file.proofs.scenario.read_plan.Goals as goal

pub returns-in_err-network : goal.returns-in_err-network
returns-in_err-network c =
    let times = c.args.times in
    let nodes = map (λ t. table_view t.now) c.args.node_tables.now in
    let links = map (λ t. table_view t.now) c.args.link_tables.now in
    let streams = map (λ t. table_view t.now) c.args.stream_tables.now in
    let events = map (λ t. table_view t.now) c.args.event_tables.now in
    let frames = map (λ t. table_view t.now) c.args.frame_tables.now in
    let p = err_from_is_err_and c.from_residual.result c.from_residual.ensures.1 in
    rw (p.1, p.2) (network-breaks times.ticks times.leave_time times.periodic c.args.domains nodes links streams events frames (broken_rule c.in_err-network.field-0.0) c.in_err-network.ensures.reads)

pub returns-in_err-traffic : goal.returns-in_err-traffic
returns-in_err-traffic c =
    let times = c.args.times in
    let nodes = map (λ t. table_view t.now) c.args.node_tables.now in
    let links = map (λ t. table_view t.now) c.args.link_tables.now in
    let streams = map (λ t. table_view t.now) c.args.stream_tables.now in
    let events = map (λ t. table_view t.now) c.args.event_tables.now in
    let frames = map (λ t. table_view t.now) c.args.frame_tables.now in
    let p = err_from_is_err_and c.from_residual-in_err-traffic.result c.from_residual-in_err-traffic.ensures.1 in
    rw (p.1, p.2) (traffic-breaks times.ticks times.leave_time times.periodic c.args.domains nodes links streams events frames c.in_ok-network.network
    (broken_rule c.in_err-traffic.field-0.0) c.in_ok-network.ensures.reads c.in_err-traffic.ensures)

pub invariant_of-result : goal.invariant_of-result
invariant_of-result c =
    let times = c.args.times in
    let nodes = map (λ t. table_view t.now) c.args.node_tables.now in
    let links = map (λ t. table_view t.now) c.args.link_tables.now in
    let streams = map (λ t. table_view t.now) c.args.stream_tables.now in
    let events = map (λ t. table_view t.now) c.args.event_tables.now in
    let frames = map (λ t. table_view t.now) c.args.frame_tables.now in
    ok-says KeepsRules (plan_of times.ticks times.leave_time times.periodic c.args.domains nodes links streams events frames) _
    (parts-make times.ticks times.leave_time times.periodic c.args.domains nodes links streams events frames c.in_ok-network.network c.in_ok-traffic.traffic
    c.in_ok-network.ensures.reads c.in_ok-traffic.ensures)
    (plan_of-keeps c.refusals.ensures.accepted times.ticks times.leave_time times.periodic c.args.domains nodes links streams events frames
    (c.requires.some_ticks, c.requires.ticks) (c.requires.least_leave, c.requires.leave))

pub returns : goal.returns
returns c =
    let times = c.args.times in
    let nodes = map (λ t. table_view t.now) c.args.node_tables.now in
    let links = map (λ t. table_view t.now) c.args.link_tables.now in
    let streams = map (λ t. table_view t.now) c.args.stream_tables.now in
    let events = map (λ t. table_view t.now) c.args.event_tables.now in
    let frames = map (λ t. table_view t.now) c.args.frame_tables.now in
    parts-make times.ticks times.leave_time times.periodic c.args.domains nodes links streams events frames c.in_ok-network.network c.in_ok-traffic.traffic
    c.in_ok-network.ensures.reads c.in_ok-traffic.ensures
