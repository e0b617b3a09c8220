-- The moments of copies, as the code reckons with them. No public contract names these words.
use Rattle.std.specs.Prelude.{◌<◌}
use Rattle.topology_file.specs.declared.entries.FrameEntry.{FrameEntry}
use Rattle.topology_file.specs.Frames.{last_copy}

-- an entry's last copy stands before the end of the longest run, in ns
abbrev pub EndsInTime : FrameEntry → Type 0
EndsInTime e = last_copy e.at e.count e.every < 120000000000
