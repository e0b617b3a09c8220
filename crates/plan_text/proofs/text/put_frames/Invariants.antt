use Rattle.std.proofs.Common.{◌≡◌, ◌++◌, drop}
use Rattle.std.specs.Prelude.{flat_map}
use Rattle.plan_text.specs.Text.{frame_table}
use Rattle.plan_text.proofs.text.put_frames.Given as goal

-- the text so far with the tables of the frames that are left is the whole
abbrev pub invariant-loop-frame : goal.invariant-loop-frame
invariant-loop-frame l = l.out.items ++ flat_map (frame_table l.nodes l.streams) (drop l.frame-index l.frames) ≡ l.initial.out.items ++ flat_map (frame_table l.nodes l.streams) l.frames
