use Rattle.std.proofs.Common.{◌≡◌, ◌∙◌, ap, inl, inr, rules}
use Rattle.topology_file.specs.Plan.{Plan}
use Rattle.class_delays.specs.declared.delays.Unbounded.TheVariants as causes
use Rattle.scenario_frames.specs.Setting.{plan_rates}
use Rattle.scenario_delays.specs.Streams.{streams_in}
use Rattle.scenario_delays.proofs.{FactLemmas.same-setting, FactLemmas.unbounded-as, FactLemmas.unframed, StreamLemmas.talkers-are}
use Rattle.scenario_delays.proofs.facts.bounds_of.Goals as goal

pub class_delays-found-requires-clause-setting : goal.class_delays-found-requires-clause-setting
class_delays-found-requires-clause-setting c =
    let plan = c.args.scenario.now in
    let changes = c.args.timeline.now.changes in
    let valid = c.a_scenario_asks_a_valid_flow.ensures plan changes c.keeps_rules.ensures c.requires.earlier c.requires.below in
    let rates : c.deref.result.now ≡ plan_rates plan = c.deref.ensures.value ∙ c.in_ok-rates.ensures in
    let tree : c.scenario.inside.tree ≡ plan.tree = ap (λ (p : Plan). p.tree) c.scenario.view_is in
    let ticks : c.scenario.inside.ticks ≡ plan.ticks = ap (λ (p : Plan). p.ticks) c.scenario.view_is in
    rw (rates, tree, ticks) (unframed plan changes valid)

pub class_delays-found-requires-clause-talkers : goal.class_delays-found-requires-clause-talkers
class_delays-found-requires-clause-talkers c =
    let plan = c.args.scenario.now in
    let streams : c.deref-2.result.now ≡ streams_in c.args.class plan = c.deref-2.ensures.value ∙ c.in_ok-streams.ensures in
    let tree : c.scenario.inside.tree ≡ plan.tree = ap (λ (p : Plan). p.tree) c.scenario.view_is in
    rw (streams, tree) (talkers-are plan c.args.class c.keeps_rules.ensures)

pub returns-in-Err-Steep : goal.returns-in-Err-Steep
returns-in-Err-Steep c =
    let plan = c.args.scenario.now in
    let changes = c.args.timeline.now.changes in
    let rates : c.deref.result.now ≡ plan_rates plan = c.deref.ensures.value ∙ c.in_ok-rates.ensures in
    let streams : c.deref-2.result.now ≡ streams_in c.args.class plan = c.deref-2.ensures.value ∙ c.in_ok-streams.ensures in
    let tree : c.scenario.inside.tree ≡ plan.tree = ap (λ (p : Plan). p.tree) c.scenario.view_is in
    let ticks : c.scenario.inside.ticks ≡ plan.ticks = ap (λ (p : Plan). p.ticks) c.scenario.view_is in
    inl (unbounded-as plan changes c.args.class _ c.class_delays-found.result (causes.Steep c.in-Err-Steep.at)
    (same-setting plan changes c.args.class c.scenario.inside.tree c.deref.result.now c.scenario.inside.ticks c.deref-2.result.now tree rates ticks streams)
    (search rules) c.class_delays-found.ensures.err)

pub returns-in-Err-Large : goal.returns-in-Err-Large
returns-in-Err-Large c =
    let plan = c.args.scenario.now in
    let changes = c.args.timeline.now.changes in
    let rates : c.deref.result.now ≡ plan_rates plan = c.deref.ensures.value ∙ c.in_ok-rates.ensures in
    let streams : c.deref-2.result.now ≡ streams_in c.args.class plan = c.deref-2.ensures.value ∙ c.in_ok-streams.ensures in
    let tree : c.scenario.inside.tree ≡ plan.tree = ap (λ (p : Plan). p.tree) c.scenario.view_is in
    let ticks : c.scenario.inside.ticks ≡ plan.ticks = ap (λ (p : Plan). p.ticks) c.scenario.view_is in
    inr (unbounded-as plan changes c.args.class _ c.class_delays-found.result (causes.Large c.in-Err-Large.at)
    (same-setting plan changes c.args.class c.scenario.inside.tree c.deref.result.now c.scenario.inside.ticks c.deref-2.result.now tree rates ticks streams)
    (search rules) c.class_delays-found.ensures.err)
