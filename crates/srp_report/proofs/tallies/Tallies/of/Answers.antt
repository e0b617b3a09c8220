use Rattle.std.proofs.Common.{ap, ◌∙◌, List}
use Rattle.report_words.specs.declared.tally.Tally.{Tally}
use Rattle.srp_report.specs.{ticks_counted, tally_at}
use Rattle.srp_report.proofs.TallyLemmas.{tallies-counted}
use Rattle.srp_report.proofs.tallies.Tallies.of.Goals as goal

pub returns : goal.returns
returns c = λ p few port.
    ap (tally_at p) (c.count_ticks.ensures ∙ ap (λ (rows : List (List Tally)). ticks_counted rows c.args.ticks.now) c.in_ok-nodes.ensures)
    ∙ tallies-counted c.args.nodes c.args.ticks.now p few port
