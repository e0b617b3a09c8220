use Rattle.std.proofs.Common.{◌≡◌, ◌+◌, ◌≤◌, ◌++◌, drop}
use Rattle.topology_file.specs.Frames.{frame_copies}
use Rattle.scenario_frames.specs.{frames_from}
use Rattle.scenario_frames.proofs.frames.add_entries.Given as goal

abbrev pub invariant-loop-entry : goal.invariant-loop-entry
invariant-loop-entry l = record {
  whole : l.frames.items ++ frames_from l.streams l.first (drop l.entry-index l.entries)
      ≡ l.initial.frames.items ++ frames_from l.streams 1 l.entries;
  room : l.first + frame_copies (drop l.entry-index l.entries) ≤ 100001;
}
