use Rattle.std.proofs.Common.{List, ap, subst, sym, ◌∙◌}
use Rattle.std.specs.List.{AllByRecursion}
use Rattle.tree_topology.specs.Topology.{Topology, HasNode}
use Rattle.wishes.specs.declared.{wish.Wish.Wish, moments.Moments.Moments}
use Rattle.wishes.specs.Wishes.{wishes_in}
use Rattle.srpnet.specs.{plan_words}
use Rattle.srpnet.proofs.{EndLemmas.end_on_tree, PlanLemmas.planned_as}
use Rattle.srpnet.proofs.plan.planned.Goals as goal

pub delay_facts-requires-clause-below : goal.delay_facts-requires-clause-below
delay_facts-requires-clause-below c =
    let plan = c.args.scenario.now in
    let run = c.in_ok-run.run' in
    let legal = c.canonical_ticks_are_legal.ensures plan run.journal.ticks run.world c.in_ok-run.ensures.ticks in
    c.slopes_stay_within_limits.ensures.rates plan run.journal.ticks run.world run.timeline.changes c.keeps_rules.ensures legal c.in_ok-run.ensures.timeline

pub words_of-requires-clause-stations : goal.words_of-requires-clause-stations
words_of-requires-clause-stations c =
    let plan = c.args.scenario.now in
    let run = c.in_ok-run.run' in
    let tree = end_on_tree plan run.journal.ticks run.world c.in_ok-run.ensures.ticks c.what_is_allowed_may_happen.ensures.trees in
    subst (λ (ws : List Wish). AllByRecursion (λ (wish : Wish). HasNode plan.tree wish.station.0) ws) (sym c.deref.ensures.value)
    (subst (λ (t : Topology). AllByRecursion (λ (wish : Wish). HasNode t wish.station.0) c.in_ok-wishes.wishes.items) tree c.in_ok-wishes.ensures.stations)

pub returns-clause-output : goal.returns-clause-output
returns-clause-output c =
    let plan = c.args.scenario.now in
    let run = c.in_ok-run.run' in
    let moments = c.in_ok-run.moments in
    let changes = run.timeline.changes in
    let facts = c.in_ok-facts.facts in
    let made = c.output_of.result in
    planned_as plan run.journal.ticks run.world changes c.in_ok-run.ensures.ticks c.in_ok-run.ensures.timeline c.what_holds_of.ensures facts
    c.in_ok-facts.ensures
    (λ flows class flow ports p is port. c.frames_go_in_time.ensures plan changes facts class ports flows p is flow port)
    made.journal.ticks made.text c.output_of.ensures.journal
    (c.output_of.ensures.text ∙ c.of.ensures ∙ c.in_ok-text.ensures
    ∙ ap (λ (ws : List Wish). plan_words plan run.world facts ws moments) (c.deref.ensures.value ∙ c.in_ok-wishes.ensures.wishes)
    ∙ ap (λ (m : Moments). plan_words plan run.world facts (wishes_in plan run.world) m) c.in_ok-run.ensures.moments)
