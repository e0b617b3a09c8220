use Rattle.std.proofs.Common.{◌∙◌}
use Rattle.srpnet.proofs.{DelayLemmas.delayed_as, EndLemmas.end_on_tree}
use Rattle.srpnet.proofs.delays.delayed.Goals as goal

pub delay_facts-requires-clause-earlier : goal.delay_facts-requires-clause-earlier
delay_facts-requires-clause-earlier c = c.in_ok-ran.ensures.run.in_force.are.ascend

pub delay_facts-requires-clause-below : goal.delay_facts-requires-clause-below
delay_facts-requires-clause-below c =
    let plan = c.args.scenario.now in
    let run = c.in_ok-ran.ran.run in
    let legal = c.canonical_ticks_are_legal.ensures plan run.journal.ticks run.world c.in_ok-ran.ensures.run.lead in
    c.slopes_stay_within_limits.ensures.rates plan run.journal.ticks run.world run.timeline.changes c.keeps_rules.ensures legal c.in_ok-ran.ensures.run.in_force

pub delays_text-requires-clause-tree : goal.delays_text-requires-clause-tree
delays_text-requires-clause-tree c =
    let run = c.in_ok-ran.ran.run in
    end_on_tree c.args.scenario.now run.journal.ticks run.world c.in_ok-ran.ensures.run.lead c.what_is_allowed_may_happen.ensures.trees

pub delays_text-requires-clause-talkers : goal.delays_text-requires-clause-talkers
delays_text-requires-clause-talkers c =
    c.talkers_are_nodes.ensures c.args.scenario.now c.in_ok-facts.facts.answers c.keeps_rules.ensures c.in_ok-facts.ensures.answers

pub returns-clause-output : goal.returns-clause-output
returns-clause-output c =
    let plan = c.args.scenario.now in
    let ran = c.in_ok-ran.ran in
    let made = c.output_of.result in
    let facts = c.in_ok-facts.facts in
    let run = c.in_ok-ran.ensures.run in
    let changes = ran.run.timeline.changes in
    let legal = c.canonical_ticks_are_legal.ensures plan ran.run.journal.ticks ran.run.world run.lead in
    let below = c.slopes_stay_within_limits.ensures.rates plan ran.run.journal.ticks ran.run.world changes c.keeps_rules.ensures legal run.in_force in
    delayed_as plan ran.run.journal.ticks ran.run.world changes ran.flow.ports facts c.keeps_rules.ensures legal below run c.in_ok-ran.ensures.holds
    c.in_ok-facts.ensures
    (λ class ports p is port. c.frames_go_in_time.ensures plan changes facts class ports ran.flow.ports p is run.flow port)
    (λ class ports p x fed is port found. c.what_was_seen_is_within.ensures plan changes facts class ports ran.flow.ports p x fed is run.flow port found)
    made.journal.ticks made.text c.output_of.ensures.journal
    (c.output_of.ensures.text ∙ c.of.ensures ∙ c.in_ok-text.ensures)
