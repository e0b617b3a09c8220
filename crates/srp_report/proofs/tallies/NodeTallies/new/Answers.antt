use Rattle.std.proofs.Common.{ap, ◌∙◌}
use Rattle.std.specs.Prelude.{replicate}
use Rattle.report_words.specs.declared.tally.Tally.{Tally}
use Rattle.srp_report.proofs.tallies.NodeTallies.new.Goals as goal

pub returns : goal.returns
returns c = c.in_ok-ports.ensures.items_if_clones_equal (λ y h. h) ∙ ap (λ (t : Tally). replicate 256 t) c.zero.ensures
