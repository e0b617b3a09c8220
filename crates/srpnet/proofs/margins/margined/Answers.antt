use Rattle.std.proofs.Common.{◌∙◌}
use Rattle.world_core.specs.Ticks.{AreCanonicalTicks}
use Rattle.srpnet.specs.{margins_alone}
use Rattle.srpnet.proofs.{EndLemmas.end_is_moment, EndLemmas.end_on_tree, Reported.reported_as}
use Rattle.srpnet.proofs.margins.margined.Goals as goal

pub margins_text-requires-clause-tree : goal.margins_text-requires-clause-tree
margins_text-requires-clause-tree c =
    let run = c.in_ok-ran.ran.run in
    end_on_tree c.args.scenario.now run.journal.ticks run.world c.in_ok-ran.ensures.run.lead c.what_is_allowed_may_happen.ensures.trees

pub margins_text-requires-clause-limits : goal.margins_text-requires-clause-limits
margins_text-requires-clause-limits c =
    let run = c.in_ok-ran.ran.run in
    let last = end_is_moment c.args.scenario.now run.journal.ticks run.world c.in_ok-ran.ensures.run.lead in
    (c.in_ok-ran.ensures.holds.moments run.world last).limits

pub returns-clause-output : goal.returns-clause-output
returns-clause-output c =
    let ran = c.in_ok-ran.ran in
    let made = c.output_of.result in
    reported_as AreCanonicalTicks margins_alone c.args.scenario.now ran.run.journal.ticks ran.run.world ran.run.timeline.changes ran.flow.ports
    c.in_ok-ran.ensures.run c.in_ok-ran.ensures.holds made.journal.ticks made.text c.output_of.ensures.journal
    (c.output_of.ensures.text ∙ c.of.ensures ∙ c.in_ok-text.ensures)
