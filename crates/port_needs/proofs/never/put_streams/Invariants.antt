use Rattle.std.proofs.Common.{◌≡◌, ◌+◌, ◌++◌, drop}
use Rattle.port_needs.specs.{never_from}
use Rattle.port_needs.proofs.never.put_streams.Given as goal

-- the text so far with the lines of the streams that are left is the whole
abbrev pub invariant-loop-i : goal.invariant-loop-i
invariant-loop-i l =
    l.out.items ++ never_from l.scenario l.ports l.wishes (l.i + 1) (drop l.i l.scenario.streams)
    ≡ l.fn.out.items ++ never_from l.scenario l.ports l.wishes 1 l.scenario.streams
