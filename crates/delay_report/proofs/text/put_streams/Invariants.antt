use Rattle.std.proofs.Common.{◌≡◌, ◌++◌, drop}
use Rattle.std.specs.Prelude.{flat_map}
use Rattle.delay_report.specs.Text.{stream_delays}
use Rattle.delay_report.proofs.text.put_streams.Given as goal

-- the text so far with the lines of the streams that are left is the whole
abbrev pub invariant-loop-answer : goal.invariant-loop-answer
invariant-loop-answer l =
    l.out.items ++ flat_map (λ a. stream_delays l.run a 1 l.world.nodes) (drop l.answer-index l.run.facts.answers)
    ≡ l.fn.out.items ++ flat_map (λ a. stream_delays l.run a 1 l.world.nodes) l.run.facts.answers
