use Rattle.std.proofs.Common.{◌≡◌, ◌++◌, drop}
use Rattle.srp_report.specs.{ticks_lines}
use Rattle.srp_report.proofs.journal.put_ticks.Given as goal

-- the text so far with the lines of the ticks that are left is the whole
abbrev pub invariant-loop-i : goal.invariant-loop-i
invariant-loop-i l =
    l.out.items ++ ticks_lines l.scenario l.i (drop l.i l.ticks) ≡ l.fn.out.items ++ ticks_lines l.scenario 0 l.ticks
