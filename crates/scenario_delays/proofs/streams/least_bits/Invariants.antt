use Rattle.std.proofs.Common.{◌≡◌, drop, map, min}
use Rattle.std.specs.List.{reduce}
use Rattle.scenario_delays.specs.Streams.{frames_of_stream}
use Rattle.scenario_delays.proofs.LeastLemmas.{least_with}
use Rattle.scenario_delays.proofs.streams.least_bits.Given as goal

-- the least so far and of the rest is that of all
abbrev pub invariant-loop-frame : goal.invariant-loop-frame
invariant-loop-frame l =
    least_with l.least (map (λ f. f.bits) (frames_of_stream l.id (drop l.frame-index l.frames)))
    ≡ reduce min (map (λ f. f.bits) (frames_of_stream l.id l.frames))
