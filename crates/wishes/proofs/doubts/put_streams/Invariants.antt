use Rattle.std.proofs.Common.{◌≡◌, ◌++◌, drop}
use Rattle.wishes.specs.{streams_doubts}
use Rattle.wishes.proofs.doubts.put_streams.Given as goal

-- the text so far with the lines of the streams that are left is the whole
abbrev pub invariant-loop-i : goal.invariant-loop-i
invariant-loop-i l =
    l.out.items ++ streams_doubts l.scenario l.world (drop l.i l.streams) ≡ l.fn.out.items ++ streams_doubts l.scenario l.world l.streams
