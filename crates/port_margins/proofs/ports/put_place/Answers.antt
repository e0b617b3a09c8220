use Rattle.std.proofs.Common.{ℕ, ◌++◌, ap, ◌∙◌}
use Rattle.srp_base.proofs.Lists.{three_pieces}
use Rattle.stream_importance.specs.declared.slope.Caps.{Caps}
use Rattle.srp_base.specs.declared.bandwidth.Class.TheVariants.{A}
use Rattle.attribute_propagation.specs.Ports.{place_of}
use Rattle.node_core.specs.State.{slope_at}
use Rattle.scenario_bounds.specs.Caps.{caps_of_link}
use Rattle.port_margins.specs.{lines_by, refusals_at}
use Rattle.port_margins.proofs.ports.put_place.Goals as goal

pub returns : goal.returns
returns c =
    let out = c.args.out.now.items in
    let port = c.args.port.now in
    let s = c.args.node.now.state in
    let place = place_of c.args.at in
    let rate = c.args.link.now.rate in
    let streams = c.args.scenario.now.streams in
    let class_a = c.slope-class_a.result in
    let class_b = c.slope-class_b.result in
    let caps = caps_of_link c.args.link.now in
    let refused = refusals_at port c.new-caps.result streams place s class_a class_b in
    three_pieces out _ _ _ _ refused _ c.in_ok-put_margins.ensures c.in_ok-put_refused.ensures c.in_ok-put_shapers.ensures
    ∙ (ap (λ (k : Caps). out ++ lines_by port rate k streams place s class_a class_b) c.new-caps.ensures
    ∙ (ap (λ (a : ℕ). out ++ lines_by port rate caps streams place s a class_b) c.slope-class_a.ensures
    ∙ ap (λ (b : ℕ). out ++ lines_by port rate caps streams place s (slope_at A place s) b) c.slope-class_b.ensures))
