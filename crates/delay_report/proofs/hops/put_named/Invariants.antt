use Rattle.std.proofs.Common.{◌≡◌, ◌++◌, drop}
use Rattle.std.specs.Prelude.{flat_map}
use Rattle.scenario_delays.specs.Facts.{bounds_of}
use Rattle.delay_report.specs.Text.{hop_of, reckoned_in}
use Rattle.delay_report.proofs.hops.put_named.Given as goal

-- the text so far with the lines of the streams that are left is the whole
abbrev pub invariant-loop-answer : goal.invariant-loop-answer
invariant-loop-answer l =
    l.out.items
    ++ flat_map (λ a. hop_of l.port a (reckoned_in a l.at (bounds_of a.class l.facts))) (drop l.answer-index l.facts.order)
    ≡ l.fn.out.items ++ flat_map (λ a. hop_of l.port a (reckoned_in a l.at (bounds_of a.class l.facts))) l.facts.order
