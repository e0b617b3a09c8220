use Rattle.std.proofs.Common.{◌≡◌, ◌++◌, drop, map}
use Rattle.delay_flow.specs.Ways.{sent_frame}
use Rattle.scenario_delays.specs.Streams.{frames_of_stream}
use Rattle.scenario_delays.proofs.conform.sent_of_stream.Given as goal

-- those found and those of the rest are all
abbrev pub invariant-loop-frame : goal.invariant-loop-frame
invariant-loop-frame l =
    l.found.items ++ map sent_frame (frames_of_stream l.id (drop l.frame-index l.frames))
    ≡ map sent_frame (frames_of_stream l.id l.frames)
