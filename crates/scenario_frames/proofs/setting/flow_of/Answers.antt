use Rattle.std.proofs.Common.{◌≡◌, ap, ◌∙◌}
use Rattle.topology_file.specs.Plan.{Plan}
use Rattle.scenario_frames.specs.{plan_frames, plan_rates}
use Rattle.scenario_frames.proofs.setting.flow_of.Goals as goal

pub flow-requires : goal.flow-requires
flow-requires c =
    let plan = c.args.scenario.now in
    let changes = c.args.timeline.now.changes in
    let valid = c.a_scenario_asks_a_valid_flow.ensures plan changes c.keeps_rules.ensures c.requires.order c.requires.slopes in
    let rates : c.deref.result.now ≡ plan_rates plan = c.deref.ensures.value ∙ c.in_ok-rates.ensures in
    let frames : c.deref-2.result.now ≡ plan_frames plan = c.deref-2.ensures.value ∙ c.in_ok-frames.ensures in
    let tree : c.scenario.inside.tree ≡ plan.tree = ap (λ (p : Plan). p.tree) c.scenario.view_is in
    let ticks : c.scenario.inside.ticks ≡ plan.ticks = ap (λ (p : Plan). p.ticks) c.scenario.view_is in
    rw (rates, frames, tree, ticks) valid
