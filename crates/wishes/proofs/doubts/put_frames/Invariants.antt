use Rattle.std.proofs.Common.{◌≡◌, ◌+◌, ◌++◌, drop}
use Rattle.wishes.specs.{frame_doubts}
use Rattle.wishes.proofs.doubts.put_frames.Given as goal

-- the text so far with the lines of the frames that are left is the whole
abbrev pub invariant-loop-i : goal.invariant-loop-i
invariant-loop-i l =
    l.out.items ++ frame_doubts l.scenario (l.i + 1) (drop l.i l.frames) ≡ l.fn.out.items ++ frame_doubts l.scenario 1 l.frames
