use Rattle.std.proofs.Common.{map, ap, ◌∙◌}
use Rattle.delay_report.proofs.NumberLemmas.{numbered_all}
use Rattle.delay_report.proofs.run.DelayRun.seen_at.Goals as goal

pub seen_in-requires : goal.seen_in-requires
seen_in-requires c =
    numbered_all _ 1 _ (ap (map (λ f. f.number)) c.self.invariant ∙ c.frames_are_numbered_from_one.ensures _ c.keeps_rules.ensures)
