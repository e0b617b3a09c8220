use Rattle.std.proofs.Common.{◌∙◌}
use Rattle.world_core.specs.Ticks.{AreLegalTicks}
use Rattle.srpnet.specs.{report_alone}
use Rattle.srpnet.proofs.Reported.{reported_as}
use Rattle.srpnet.proofs.ports.reported.Goals as goal

pub returns-clause-output : goal.returns-clause-output
returns-clause-output g c =
    let ran = c.in_ok-ran.ran in
    let made = c.output_of.result in
    reported_as AreLegalTicks report_alone c.args.scenario.now ran.run.journal.ticks ran.run.world ran.run.timeline.changes ran.flow.ports
    c.in_ok-ran.ensures.run c.in_ok-ran.ensures.holds made.journal.ticks made.text c.output_of.ensures.journal
    (c.output_of.ensures.text ∙ c.in_ok-text.ensures)
