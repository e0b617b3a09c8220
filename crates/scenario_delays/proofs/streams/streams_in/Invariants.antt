use Rattle.std.proofs.Common.{◌≡◌, ◌++◌, drop, map, filter}
use Rattle.scenario_delays.specs.Streams.{is_of_class, stream_in}
use Rattle.scenario_delays.proofs.streams.streams_in.Given as goal

-- those found and those of the rest are all
abbrev pub invariant-loop-entry : goal.invariant-loop-entry
invariant-loop-entry l =
    l.found.items ++ map (stream_in l.class l.frames) (filter (is_of_class l.class) (drop l.entry-index l.scenario.streams))
    ≡ map (stream_in l.class l.frames) (filter (is_of_class l.class) l.scenario.streams)
